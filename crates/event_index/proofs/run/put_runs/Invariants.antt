use Rattle.std.proofs.Common.{◌≡◌, ◌++◌, map, take}
use Rattle.std.specs.Arc.{arc_value}
use Rattle.event_index.specs.Postings.{joined}
use Rattle.event_index.proofs.run.put_runs.Given as goal

abbrev pub invariant-loop-run : goal.invariant-loop-run
invariant-loop-run l = l.postings.items ≡ l.initial.postings.items ++ joined (map arc_value (take l.run-index l.runs))
