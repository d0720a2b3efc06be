use Rattle.std.proofs.Common.{◌≡◌, ◌+◌, drop}
use Rattle.relay_core.specs.Requests.{open_sizes}
use Rattle.relay_core.proofs.requests.room_behind_subs.Given as goal

abbrev pub invariant-loop-sub : goal.invariant-loop-sub
invariant-loop-sub l = l.left + open_sizes l.subs ≡ l.room + open_sizes (drop l.sub-index l.subs)
