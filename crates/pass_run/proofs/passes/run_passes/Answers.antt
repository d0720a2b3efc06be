use Rattle.std.proofs.Common.{◌≡◌, ◌+◌, ◌-◌, ◌^◌, arith}
use Rattle.std.specs.Prelude.{unwrap_or}
use Rattle.pass_run.specs.Passes.{falls_short}
use Rattle.pass_run.proofs.Telling.{none_told, one_more_told, all_told}
use Rattle.pass_run.proofs.passes.run_passes.Goals as goal

pub loop-number-init : goal.loop-number-init
loop-number-init g c = none_told _ _

pub loop-number-preserved : goal.loop-number-preserved
loop-number-preserved g c =
    let one = c.in_ok-line.ensures in
    let number : c.saturating_add-pass.result ≡ c.loop-number.number + 1 = omega (arith, c.saturating_add-pass.ensures) in
    let short : c.is_short-is_last_short.result ≡ falls_short one.0 = cc (c.is_short-is_last_short.ensures, one.2, one.3, one.4) in
    one_more_told _ _ _ _ _ _ _ one.0 c.saturating_add-pass.result c.loop-number.invariant one.1 number short

pub returns : goal.returns
returns g c =
    let all : c.loop-number.number ≡ unwrap_or c.args.settings.now.mirroring.passes (2 ^ 64 - 1) = omega (arith, c.loop-number-test.false, c.loop-number.auto.number-end, c.unwrap_or-most.ensures) in
    all_told _ _ _ _ _ c.loop-number.invariant all
