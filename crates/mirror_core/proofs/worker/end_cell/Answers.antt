use Rattle.std.proofs.Common.{Some, sym, ap, ◌∙◌, inl, inr}
use Rattle.item_key.specs.declared.Id.{Id}
use Rattle.nostr_event.specs.EventView.{EventView}
use Rattle.claim_board.specs.Views.{LaneView}
use Rattle.mirror_core.proofs.Given.{given_at, is_given}
use Rattle.mirror_core.proofs.worker.end_cell.Goals as goal

pub returns-in_default-clause-ended : goal.returns-in_default-clause-ended
returns-in_default-clause-ended g c =
    let cell = c.cell.result in
    (cell.0, (cell.1, c.cell.ensures.value), inr (ap (λ (z : LaneView). z.own) c.miss.ensures, c.in_default.ensures))

pub finish-requires-clause-placed : goal.finish-requires-clause-placed
finish-requires-clause-placed g c =
    let cell = c.cell.result in
    (cell.1, c.cell.ensures.value ∙ ap (λ (z : Id). Some (z, cell.1)) (sym c.in-Some-told_of.ensures))

pub finish-requires-in-Ok-insert-clause-placed : goal.finish-requires-in-Ok-insert-clause-placed
finish-requires-in-Ok-insert-clause-placed g c =
    let cell = c.cell.result in
    let given = given_at c.args.given.now c.in-Some.k c.index-given-k.result cell.0 c.in-Some.ensures.0 c.index-given-k.is c.in-Some.ensures.1 in
    (cell.1, c.cell.ensures.value ∙ ap (λ (z : Id). Some (z, cell.1)) (sym given ∙ (ap (λ (z : EventView). z.id) (sym c.in-Ok.ensures) ∙ sym c.in-Ok-insert.ensures.placed.0)))

pub returns-in-Ok-insert-clause-ended : goal.returns-in-Ok-insert-clause-ended
returns-in-Ok-insert-clause-ended g c =
    let cell = c.cell.result in
    (cell.0, (cell.1, c.cell.ensures.value), inl (ap (λ (z : LaneView). z.own) c.finish-in-Ok-insert.ensures, is_given c.args.given.now c.in-Some.k cell.0 c.in-Some.ensures.0 c.in-Some.ensures.1))
