use Rattle.std.proofs.Common.{◌≤◌, ◌-◌, length}
use Rattle.event_log.specs.Media.{Goes}
use Rattle.event_log.proofs.Logging.{TakesUpTo}
use Rattle.event_log.proofs.lines.write_from.Given as goal

abbrev pub invariant-loop-place : goal.invariant-loop-place
invariant-loop-place g l = (l.place ≤ length l.events) × Goes (TakesUpTo l.events l.start l.place l.count) (g.M.Medium.held l.initial.medium) (g.M.Medium.held l.medium)

abbrev pub decreases-loop-place : goal.decreases-loop-place
decreases-loop-place g l = length l.events - l.place
