use Rattle.std.proofs.Common.{◌≡◌, ◌++◌, take, drop}
use Rattle.relay_core.specs.Due.{marked}
use Rattle.relay_core.proofs.subs.mark_all.Given as goal

abbrev pub invariant-loop-sub : goal.invariant-loop-sub
invariant-loop-sub l = l.subs ≡ marked l.front (take l.sub-index l.initial.subs) ++ drop l.sub-index l.initial.subs
