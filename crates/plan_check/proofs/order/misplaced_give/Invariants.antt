use Rattle.std.proofs.Common.{◌≡◌, drop, true, None}
use Rattle.plan_check.specs.Lines.{first_out}
use Rattle.sharing.specs.Offers.{id_cmp}
use Rattle.plan_check.proofs.order.misplaced_give.Given as goal

abbrev pub invariant-loop-place : goal.invariant-loop-place
invariant-loop-place l = first_out id_cmp (λ g. g.0) (λ _. true) None 0 l.gives ≡ first_out id_cmp (λ g. g.0) (λ _. true) l.before l.place (drop l.place l.gives)
