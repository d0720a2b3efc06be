use Rattle.std.proofs.Common.{◌≡◌, ◌-◌, map, take, drop}
use Rattle.std.specs.Arc.{arc_value}
use Rattle.event_table.proofs.indexing.tail.Given as goal

abbrev pub invariant-loop-place : goal.invariant-loop-place
invariant-loop-place l = map arc_value l.all.items ≡ take (l.place - l.start) (drop l.start l.events)
