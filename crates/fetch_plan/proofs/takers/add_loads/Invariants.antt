use Rattle.std.proofs.Common.{◌≡◌, ◌+◌, ℕ, take}
use Rattle.fetch_plan.specs.Takers.{at, held}
use Rattle.fetch_plan.proofs.takers.add_loads.Given as goal

abbrev pub invariant-loop-taker : goal.invariant-loop-taker
invariant-loop-taker l = (r : ℕ) → at l.loads r ≡ at l.initial.loads r + held (take l.taker-index l.takers) r
