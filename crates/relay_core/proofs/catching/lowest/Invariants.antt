use Rattle.std.proofs.Common.{◌≤◌, take}
use Rattle.std.specs.List.{AllByRecursion}
use Rattle.relay_core.specs.declared.subs.Subscription.{Subscription}
use Rattle.relay_core.proofs.catching.lowest.Given as goal

abbrev pub invariant-loop-sub : goal.invariant-loop-sub
invariant-loop-sub l = record { marks : AllByRecursion (λ (s : Subscription). l.low ≤ s.mark) (take l.sub-index l.subs); front : l.low ≤ l.front }
