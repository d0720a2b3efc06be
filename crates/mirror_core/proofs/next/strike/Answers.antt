use Rattle.std.proofs.Common.{ℕ, ◌&&◌, not, List, map, ap, ◌∙◌, subst}
use Rattle.item_key.specs.declared.Id.{Id}
use Rattle.sharing.specs.Sharing.{is_among}
use Rattle.sharing.specs.Offers.{relays_of, Ascend}
use Rattle.fetch_plan.proofs.Gone.{gone_ids}
use Rattle.mirror_core.proofs.Left.{left_of}
use Rattle.mirror_core.proofs.next.strike.Goals as goal

pub returns-clause-left : goal.returns-clause-left
returns-clause-left c =
    let old = c.args.table.now.offers in
    let gives = c.args.last.now.gives in
    let cells = c.args.cells.now in
    let new = c.leave_out.new.self.offers in
    let gone = c.in_ok-gone.ensures.gone in
    let ids = subst Ascend (ap (map (λ o. o.0)) gone ∙ gone_ids old gives cells) c.in_ok-gone.ensures.ascend in
    left_of old new gives cells c.leave_out.ensures.table.offers_ok ids
    (λ i r. c.in_ok-leave_out.ensures.offers i r ∙ ap (λ (z : List (Id × List ℕ)). is_among (relays_of old i) r && not (is_among (relays_of z i) r)) (c.deref.ensures.value ∙ gone))
