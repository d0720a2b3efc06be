use Rattle.std.proofs.Common.{◌≡◌, ◌<◌, ◌^◌, ◌-◌, ◌++◌, All, length, map}
use Rattle.std.specs.List.{range_with_len}
use Rattle.std.specs.Vec.Iter.{into_iter_items}
use Rattle.session_run.proofs.links.peers_in.Given as goal

abbrev pub invariant-loop-place : goal.invariant-loop-place
invariant-loop-place g l = record {
  faults : All (λ p. p.peer.faults < 2 ^ 64 - 1) l.peers.items;
  numbers : map (λ p. p.relay) l.peers.items ≡ range_with_len 0 (length l.peers.items);
  some : length l.peers.items ≡ length l.yielded;
  all : l.fn.places.items ≡ l.yielded ++ into_iter_items l.place-iterator;
}
