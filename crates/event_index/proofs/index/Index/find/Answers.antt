use Rattle.std.proofs.Common.{length, sym, ap, subst, arith}
use Rattle.std.specs.Prelude.{All}
use Rattle.event_index.specs.declared.conditions.Marks.{Marks}
use Rattle.event_index.specs.Marks.{AreMarksOf}
use Rattle.event_index.proofs.index.Index.find.Goals as goal

pub returns-in-Some : goal.returns-in-Some
returns-in-Some c events covers =
    let f = c.args.filter.now in
    let m = c.index.result.now in
    let of : AreMarksOf f m.marks.items = subst (λ (x : Marks). AreMarksOf f x.marks.items) (sym c.index.ensures) (c.in_ok-conditions.ensures c.in-Some.at m (omega (arith, c.in-Some.ensures, ap length c.as_slice.ensures.value))) in
    c.in_ok-narrowed-in-Some.ensures f events
    (subst (All (λ (x : Marks). AreMarksOf f x.marks.items)) (sym c.as_slice-in-Some-2.ensures.value) c.in_ok-conditions.ensures)
    covers
    (c.in_ok-places-in-Some.ensures f events (subst (AreMarksOf f) (sym c.as_slice-in-Some.ensures.value) of) covers)
