-- Two ids' bytes, one behind the other, and their digits.
use Rattle.std.proofs.Common.{◌≡◌, ◌+◌, ◌-◌, ◌<◌, ◌++◌, ℕ, List, length, take, drop, inl, inr, sym, ap, ap₂, subst, ◌∙◌, arith, take_at, drop_at, length-append, append-nil}
use Rattle.std.proofs.lemmas.List.{take-append-drop, drop_all, get_or_append_left, get_or-append_right, get_or-take, get_or-drop, get_or_past, length-take-le, length-drop}
use Rattle.std.proofs.lemmas.Bool.{cases_lt}
use borrow.Rule.Slice.PartMut.{put_mid}
use Rattle.hex.specs.Hex.{encode_lower, lower_digits}
use Rattle.hex.proofs.HexLemmas.{length-encode_with}
use Rattle.id_text.proofs.HexLemmas.{encode-append}
use Rattle.nostr_event.specs.EventView.{IsBytesOf}

front_bytes : (b : List ℕ) → IsBytesOf 64 b → IsBytesOf 32 (take 32 b)
front_bytes b of =
    let len : length (take 32 b) ≡ 32 = length-take-le 32 b (omega (arith, of.0)) in (
      len,
      λ i. elim (cases_lt i 32) [
        | inl below ↦ subst (λ x. x < 256) (sym (get_or-take 32 b i 0 below)) (of.1 i)
        | inr past ↦ subst (λ x. x < 256) (sym (get_or_past (take 32 b) i 0 (omega (arith, len)))) (omega arith)
      ],
    )

back_bytes : (b : List ℕ) → IsBytesOf 64 b → IsBytesOf 32 (drop 32 b)
back_bytes b of = (
  omega (arith, length-drop 32 b, of.0),
  λ i. subst (λ x. x < 256) (sym (get_or-drop 32 b i 0)) (of.1 (32 + i)),
)

-- the digits of 64 bytes are those of the first 32, and then those of the others
pub record Halves (text b : List ℕ) : Type 0 where
  pub front : take 64 text ≡ encode_lower (take 32 b)
  pub back : drop 64 text ≡ encode_lower (drop 32 b)
  pub front_bytes : IsBytesOf 32 (take 32 b)
  pub back_bytes : IsBytesOf 32 (drop 32 b)

pub halves : (text b : List ℕ) → IsBytesOf 64 b → text ≡ encode_lower b → Halves text b
halves text b of same =
    let first = encode_lower (take 32 b) in
    let second = encode_lower (drop 32 b) in
    let fronts = front_bytes b of in
    let whole : text ≡ first ++ second = same ∙ ap encode_lower (sym (take-append-drop 32 b)) ∙ encode-append (take 32 b) (drop 32 b) in
    let len : length first ≡ 64 = omega (arith, length-encode_with lower_digits (take 32 b), fronts.0) in
    record {
      front = ap (take 64) whole ∙ take_at first second 64 len;
      back = ap (drop 64) whole ∙ drop_at first second 64 len;
      front_bytes = fronts;
      back_bytes = back_bytes b of;
    }

pub joined_bytes : (a b : List ℕ) → IsBytesOf 32 a → IsBytesOf 32 b → IsBytesOf 64 (a ++ b)
joined_bytes a b ofa ofb = (
  omega (arith, length-append a b, ofa.0, ofb.0),
  λ i. elim (cases_lt i 32) [
    | inl below ↦ subst (λ x. x < 256) (sym (get_or_append_left a b 0 i (omega (arith, ofa.0)))) (ofa.1 i)
    | inr past ↦ subst (λ x. x < 256) (sym (get_or-append_right a b 32 i 0 ofa.0 past)) (ofb.1 (i - 32))
  ],
)

-- what a copy over the second part leaves
pub second_part : (n m : ℕ) (xs zeros ys : List ℕ) → length xs ≡ n → length zeros ≡ m → put_mid n m (xs ++ zeros) ys ≡ xs ++ ys
second_part n m xs zeros ys len same =
    ap₂ (λ (a b : List ℕ). a ++ b) (take_at xs zeros n len) (ap (λ l. ys ++ l) (ap (drop m) (drop_at xs zeros n len) ∙ drop_all m zeros (omega (arith, same))) ∙ append-nil ys)
