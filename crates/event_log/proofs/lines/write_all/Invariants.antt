use Rattle.std.proofs.Common.{ℕ, ◌≡◌, ◌++◌, List, length}
use Rattle.event_log.specs.Media.{Goes, Takes}
use Rattle.event_log.proofs.lines.write_all.Given as goal

abbrev pub invariant-loop-rest : goal.invariant-loop-rest
invariant-loop-rest g l = (done : List ℕ) × (l.bytes ≡ done ++ l.rest) × Goes (Takes done) (g.M.Medium.held l.initial.medium) (g.M.Medium.held l.medium)

abbrev pub decreases-loop-rest : goal.decreases-loop-rest
decreases-loop-rest g l = length l.rest
