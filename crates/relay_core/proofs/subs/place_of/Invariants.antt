use Rattle.std.proofs.Common.{◌≡◌, ◌++◌, take, drop}
use Rattle.relay_core.specs.declared.subs.Subscription.{Subscription}
use Rattle.relay_core.specs.Kept.{put}
use Rattle.relay_core.proofs.subs.place_of.Given as goal

abbrev pub invariant-loop-place : goal.invariant-loop-place
invariant-loop-place l = (s : Subscription) → s.name ≡ l.name → put s l.subs ≡ take l.place l.subs ++ put s (drop l.place l.subs)
