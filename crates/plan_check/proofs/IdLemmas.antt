-- The digits of an id.
use Rattle.std.proofs.Common.{◌≡◌, ℕ, ◌≤◌, List, ◌++◌, length, take, drop, Ok, refl, ap, sym, ◌∙◌, arith, length-append, take_at, inl, inr}
use Rattle.std.proofs.lemmas.Bool.{cases_lt}
use Rattle.std.proofs.lemmas.List.{get_or_past, drop_at}
use Rattle.hex.specs.Hex.{encode_lower, lower_digits, IsBytes, decode_of}
use Rattle.hex.proofs.HexLemmas.{length-encode_with, decode_of-encode_lower}
use Rattle.item_key.specs.declared.Id.{Id}
use Rattle.item_key.specs.Keys.{IsId}

pub length-digits : (id : Id) → IsId id → length (encode_lower id.0) ≡ 64
length-digits id is = let e = length-encode_with lower_digits id.0 in omega (arith, e, is.len)

pub id_bytes : (id : Id) → IsId id → IsBytes id.0
id_bytes id is = λ i. elim (cases_lt i (length id.0)) [
  | inl lt ↦ is.bytes i 0 lt
  | inr ge ↦ let none = get_or_past id.0 i 0 ge in omega (arith, none)
]

-- a text that an id begins
pub id_fits : (text : List ℕ) (id : Id) (rest : List ℕ) → IsId id → text ≡ encode_lower id.0 ++ rest → 64 ≤ length text
id_fits text id rest is same = let whole = ap length same ∙ length-append (encode_lower id.0) rest in omega (arith, whole, length-digits id is)

pub id_front : (text : List ℕ) (id : Id) (rest : List ℕ) → IsId id → text ≡ encode_lower id.0 ++ rest → take 64 text ≡ encode_lower id.0
id_front text id rest is same = ap (take 64) same ∙ take_at (encode_lower id.0) rest 64 (length-digits id is)

-- the text after an id
pub after_id : (a b : Id) (x y : List ℕ) → IsId a → IsId b → encode_lower a.0 ++ x ≡ encode_lower b.0 ++ y → x ≡ y
after_id a b x y ha hb e = sym (drop_at (encode_lower a.0) x 64 (length-digits a ha)) ∙ ap (drop 64) e ∙ drop_at (encode_lower b.0) y 64 (length-digits b hb)

-- digits tell one id
pub same_id : (a b : Id) (x y : List ℕ) → IsId a → IsId b → encode_lower a.0 ++ x ≡ encode_lower b.0 ++ y → a ≡ b
same_id a b x y ha hb e =
    let digits : encode_lower a.0 ≡ encode_lower b.0 = sym (id_front _ a x ha refl) ∙ ap (take 64) e ∙ id_front _ b y hb refl in
    let read : Ok a.0 ≡ Ok b.0 = sym (decode_of-encode_lower a.0 (id_bytes a ha)) ∙ ap decode_of digits ∙ decode_of-encode_lower b.0 (id_bytes b hb) in
    let bytes : a.0 ≡ b.0 = cc in
    ap (λ (bs : List ℕ). record { 0 = bs }) bytes
