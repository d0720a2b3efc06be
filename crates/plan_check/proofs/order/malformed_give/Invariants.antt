use Rattle.std.proofs.Common.{◌≡◌, drop, not}
use Rattle.std.specs.Prelude.{nat_lt}
use Rattle.sharing.specs.declared.TheConstants.{RELAYS}
use Rattle.plan_check.specs.Lines.{first_at}
use Rattle.plan_check.proofs.order.malformed_give.Given as goal

abbrev pub invariant-loop-place : goal.invariant-loop-place
invariant-loop-place l = first_at (λ g. not (nat_lt g.1 RELAYS)) 0 l.gives ≡ first_at (λ g. not (nat_lt g.1 RELAYS)) l.place (drop l.place l.gives)
