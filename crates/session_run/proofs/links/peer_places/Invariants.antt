use Rattle.std.proofs.Common.{◌≡◌, length}
use Rattle.session_run.proofs.links.peer_places.Given as goal

abbrev pub invariant-loop-relay : goal.invariant-loop-relay
invariant-loop-relay g l = length l.places.items ≡ l.relay
