use Rattle.std.proofs.Common.{◌≡◌, ℕ, ◌+◌, ◌-◌, ◌/◌, ◌%◌, ◌<◌, ◌^◌, ◌++◌, drop, set, decimal, sym, subst, arith}
use Rattle.std.proofs.lemmas.List.{length-set}
use Rattle.plan_check.proofs.Digits.{digit_set, first_set, digit_less, some_place}
use Rattle.plan_check.proofs.lines.set_digits.Goals as goal

pub loop-rest-preserved : goal.loop-rest-preserved
loop-rest-preserved c =
    let inv = c.loop-rest.invariant in
    let at : ℕ = c.loop-rest.at in
    let rest : ℕ = c.loop-rest.rest in
    let some = some_place rest at c.loop-rest-test.true inv.few in
    let next : at - 1 + 1 ≡ at = omega (arith, some) in
    record {
      room = omega (arith, length-set c.loop-rest.buffer at (48 + rest % 10), inv.room);
      at = omega (arith, inv.at);
      few = subst (λ e. rest / 10 < 10 ^ e) (sym next) (digit_less rest at inv.few);
      small = omega (arith, inv.small);
      digits = subst (λ e. decimal c.args.number ≡ decimal (rest / 10) ++ drop e (set c.loop-rest.buffer at (48 + rest % 10))) (sym next) (digit_set c.loop-rest.buffer (decimal c.args.number) at rest (omega (arith, inv.at, inv.room)) c.loop-rest-test.true inv.small inv.digits);
    }

pub returns-clause-digits : goal.returns-clause-digits
returns-clause-digits c =
    let inv = c.loop-rest.invariant in
    first_set c.loop-rest.buffer (decimal c.args.number) c.loop-rest.at c.loop-rest.rest (omega (arith, inv.at, inv.room)) c.loop-rest-test.false inv.digits
