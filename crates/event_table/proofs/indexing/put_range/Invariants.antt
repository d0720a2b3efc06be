use Rattle.std.proofs.Common.{ℕ, ◌<◌, ◌≤◌}
use Rattle.std.specs.Prelude.{All, Contains}
use Rattle.event_table.proofs.indexing.put_range.Given as goal

abbrev pub invariant-loop-place : goal.invariant-loop-place
invariant-loop-place l = record {
  below : All (λ p. p < l.end) l.initial.places.items → All (λ p. p < l.end) l.places.items;
  kept : (i : ℕ) → Contains l.initial.places.items i → Contains l.places.items i;
  put : (i : ℕ) → l.start ≤ i → i < l.place → Contains l.places.items i;
}
