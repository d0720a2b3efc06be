use Rattle.std.proofs.Common.{◌≡◌, drop, not}
use Rattle.plan_check.specs.Lines.{first_at, is_base}
use Rattle.plan_check.proofs.order.malformed_base.Given as goal

abbrev pub invariant-loop-place : goal.invariant-loop-place
invariant-loop-place l = first_at (λ b. not (is_base b)) 0 l.bases ≡ first_at (λ b. not (is_base b)) l.place (drop l.place l.bases)
