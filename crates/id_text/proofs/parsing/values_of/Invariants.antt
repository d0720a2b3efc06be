use Rattle.std.proofs.Common.{◌≡◌, ◌<◌, ◌≤◌, length, map, take, slice_index, All}
use Rattle.hex.specs.Hex.{lower_digits}
use Rattle.id_text.proofs.HexLemmas.{HasStray}
use Rattle.id_text.proofs.parsing.values_of.Given as goal

abbrev pub invariant-loop-i : goal.invariant-loop-i
invariant-loop-i l = record {
  len : length l.values ≡ 64;
  digits : l.most < 16 → take l.i l.text ≡ map (slice_index lower_digits) (take l.i l.values);
  small : l.most < 16 → All (λ v. v < 16) (take l.i l.values);
  stray : 16 ≤ l.most → HasStray l.text l.i;
}
