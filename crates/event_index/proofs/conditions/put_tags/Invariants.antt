use Rattle.std.specs.Prelude.{All}
use Rattle.event_index.specs.Marks.{AreMarksOf}
use Rattle.event_index.proofs.conditions.put_tags.Given as goal

abbrev pub invariant-loop-condition : goal.invariant-loop-condition
invariant-loop-condition l = All (λ m. AreMarksOf l.filter m.marks.items) l.all.items
