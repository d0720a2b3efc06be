use Rattle.std.proofs.Common.{◌≡◌, replicate}
use Rattle.mirror_settings.proofs.values.no_loads.Given as goal

abbrev pub invariant-loop : goal.invariant-loop
invariant-loop l = l.loads.items ≡ replicate l.counter 0
