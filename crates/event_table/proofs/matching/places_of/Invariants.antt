use Rattle.std.proofs.Common.{◌≡◌, take}
use Rattle.event_table.specs.Events.{places_in}
use Rattle.event_table.proofs.matching.places_of.Given as goal

abbrev pub invariant-loop-id : goal.invariant-loop-id
invariant-loop-id l = l.places.items ≡ places_in l.table (take l.id-index l.ids)
