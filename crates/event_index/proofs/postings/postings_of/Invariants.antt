use Rattle.std.proofs.Common.{map, take}
use Rattle.std.specs.Arc.{arc_value}
use Rattle.event_index.specs.Postings.{HavePostings}
use Rattle.event_index.proofs.postings.postings_of.Given as goal

abbrev pub invariant-loop-at : goal.invariant-loop-at
invariant-loop-at l = HavePostings l.start (map arc_value (take l.at l.events)) l.postings.items
