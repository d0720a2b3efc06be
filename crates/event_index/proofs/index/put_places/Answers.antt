use Rattle.std.proofs.Common.{◌++◌, List, ℕ, map, take, sym, ap, subst, ◌∙◌}
use Rattle.std.specs.Arc.{arc_value}
use Rattle.event_index.specs.Postings.{joined, ReadsPlaces}
use Rattle.event_index.proofs.Lists.{runs_more, reads_more}
use Rattle.event_index.proofs.index.put_places.Goals as goal

pub loop-run-preserved : goal.loop-run-preserved
loop-run-preserved c =
    let before = joined (map arc_value (take c.loop-run.run-index c.args.runs.now)) in
    let more = runs_more arc_value c.args.runs.now c.loop-run.run-index c.run-item.result c.loop-run-test.true (sym c.run-item.is) in
    subst (λ (ps : List ℕ). ReadsPlaces c.args.limit c.args.mark ps c.args.places.now.items c.put_places.new.places.items) (ap (λ xs. before ++ xs) c.deref.ensures ∙ sym more)
    (reads_more c.args.limit c.args.mark before c.deref.result.now c.args.places.now.items c.loop-run.places.items c.put_places.new.places.items c.loop-run.invariant c.in_ok-put_places.ensures)
