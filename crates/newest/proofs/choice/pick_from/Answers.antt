use Rattle.std.proofs.Common.{◌≡◌, ◌∙◌, ◌∷◌, map, take, ap, subst}
use Rattle.std.specs.Prelude.{IfOk}
use Rattle.std.specs.Arc.{arc_value}
use Rattle.nostr_filter.specs.Choice.{newest_first, in_order}
use Rattle.newest.specs.Newest.{rank, joined, hits}
use Rattle.newest.proofs.Lists.{apart_of, apart_fewer}
use Rattle.newest.proofs.Chosen.{picked_is}
use Rattle.newest.proofs.choice.pick_from.Goals as goal

pub returns : goal.returns
returns c events of =
    let f = c.args.filter.now in
    let all = joined (c.args.last.now ∷ map arc_value c.args.runs.now) in
    let rests = joined (map (λ r. r.now) c.in_ok-rests.rests.items) in
    let found : map (λ e. rank e.now) c.in_ok-found.found.items ≡ take c.cut.result (in_order newest_first (hits f rests)) =
    c.in_ok-found.ensures (apart_fewer all rests c.in_ok-rests.ensures.part (apart_of (map arc_value events) all of)) in
    subst (λ xs. IfOk c.ranks_of.result (λ v. v.items ≡ xs))
    (ap (map (λ e. rank e.now)) c.as_slice.ensures.value ∙ found ∙ ap (λ n. take n (in_order newest_first (hits f rests))) c.cut.ensures ∙ picked_is f events all rests of c.in_ok-rests.ensures.hits) c.ranks_of.ensures
