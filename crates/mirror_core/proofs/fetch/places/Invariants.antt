use Rattle.std.proofs.Common.{◌≡◌, length}
use Rattle.mirror_core.proofs.fetch.places.Given as goal

abbrev pub invariant-loop : goal.invariant-loop
invariant-loop g l = length l.stops.items ≡ l.counter
