use Rattle.std.proofs.Common.{◌≡◌, ◌≤◌, take, length, slice_get}
use Rattle.std.specs.Prelude.{filter_map}
use Rattle.event_table.specs.Events.{matching}
use Rattle.event_table.proofs.matching.matching_at.Given as goal

abbrev pub invariant-loop-place : goal.invariant-loop-place
invariant-loop-place l = record { list : l.all ≡ matching l.filter (filter_map (slice_get l.events) (take l.place-index l.places)); few : length l.all ≤ l.place-index }
