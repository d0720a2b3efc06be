use Rattle.std.proofs.Common.{◌≡◌, take}
use Rattle.plan_check.specs.Lines.{rises}
use Rattle.plan_check.proofs.order.do_rise.Given as goal

abbrev pub invariant-loop-place : goal.invariant-loop-place
invariant-loop-place l = l.rise ≡ rises (take l.place l.relays)
