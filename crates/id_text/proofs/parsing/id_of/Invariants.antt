use Rattle.std.proofs.Common.{◌≡◌, ◌*◌, ◌<◌, length, map, take, slice_index, All}
use Rattle.hex.specs.Hex.{encode_lower, lower_digits}
use Rattle.id_text.proofs.parsing.id_of.Given as goal

abbrev pub invariant-loop-i : goal.invariant-loop-i
invariant-loop-i l = record {
  len : length l.id ≡ 32;
  bytes : All (λ b. b < 256) (take l.i l.id);
  digits : take (2 * l.i) (map (slice_index lower_digits) l.values) ≡ encode_lower (take l.i l.id);
}
