use Rattle.std.proofs.Common.{◌≡◌, ◌≤◌, take, length}
use Rattle.event_table.specs.Events.{matching}
use Rattle.event_table.proofs.matching.matching_all.Given as goal

abbrev pub invariant-loop-place : goal.invariant-loop-place
invariant-loop-place l = record { list : l.all ≡ matching l.filter (take l.place l.events); few : length l.all ≤ l.place }
