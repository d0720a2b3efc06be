use Rattle.std.proofs.Common.{◌≡◌, ◌≤◌, ◌+◌, false, length, sym, ap, ◌∙◌, subst, arith}
use Rattle.std.specs.List.{list_any}
use Rattle.sharing.specs.declared.TheConstants.{MOST_IDS}
use Rattle.sharing.specs.Sharing.{is_among}
use Rattle.offer_table.specs.Table.{Table, new_in}
use Rattle.offer_table.proofs.Runs.{Offers}
use Rattle.offer_table.proofs.Tables.{no_fault}
use Rattle.offer_table.proofs.table.OfferTable.merge.Goals as goal

pub returns-in-Ok-clause-fault : goal.returns-in-Ok-clause-fault
returns-in-Ok-clause-fault c =
    let mine : c.deref.result.now ≡ c.args.self.offers = c.deref.ensures.value ∙ ap (λ (t : Table). t.offers) c.self.view_is in
    let theirs : c.deref-2.result.now ≡ c.args.other.offers = c.deref-2.ensures.value ∙ ap (λ (t : Table). t.offers) c.other.view_is in
    let few : length c.args.self.offers + new_in c.args.self.offers c.args.other.offers ≤ MOST_IDS =
    subst (λ (xs : Offers). length xs + new_in xs c.args.other.offers ≤ MOST_IDS) mine
    (subst (λ (ys : Offers). length c.deref.result.now + new_in c.deref.result.now ys ≤ MOST_IDS) theirs (omega (arith, c.room_for-room.ensures.enough, c.if-room-gt-MOST_IDS.false))) in
    let apart : list_any (is_among c.args.other.reported) c.args.self.reported ≡ false =
    sym (ap (λ (t : Table). list_any (is_among t.reported) c.args.self.reported) c.other.view_is) ∙ sym (ap (λ (t : Table). list_any (is_among c.other.inside.reported) t.reported) c.self.view_is) ∙ sym c.meets.ensures ∙ c.if-meets.false in
    rw (no_fault c.args.self c.args.other few apart) tt
