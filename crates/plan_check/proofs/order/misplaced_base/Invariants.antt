use Rattle.std.proofs.Common.{◌≡◌, drop, true, None}
use Rattle.std.specs.Ordering.{nat_cmp}
use Rattle.plan_check.specs.Lines.{first_out}
use Rattle.plan_check.proofs.order.misplaced_base.Given as goal

abbrev pub invariant-loop-place : goal.invariant-loop-place
invariant-loop-place l = first_out nat_cmp (λ b. b.0) (λ _. true) None 0 l.bases ≡ first_out nat_cmp (λ b. b.0) (λ _. true) l.before l.place (drop l.place l.bases)
