use Rattle.std.proofs.Common.{map, take}
use Rattle.std.specs.Arc.{arc_value}
use Rattle.event_index.specs.Postings.{joined, ReadsPlaces}
use Rattle.event_index.proofs.index.put_places.Given as goal

abbrev pub invariant-loop-run : goal.invariant-loop-run
invariant-loop-run l = ReadsPlaces l.limit l.mark (joined (map arc_value (take l.run-index l.runs))) l.initial.places.items l.places.items
