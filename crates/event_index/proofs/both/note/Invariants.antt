use Rattle.std.proofs.Common.{◌≡◌, ◌<◌, ℕ, true, false, length, take, slice_index_or}
use Rattle.std.specs.Prelude.{Contains}
use Rattle.event_index.proofs.both.note.Given as goal

abbrev pub invariant-loop-place : goal.invariant-loop-place
invariant-loop-place l = record {
  long : length l.there ≡ length l.fn.there;
  noted : (i : ℕ) → i < length l.there → Contains (take l.place-index l.places) i → slice_index_or l.there i false ≡ true;
}
