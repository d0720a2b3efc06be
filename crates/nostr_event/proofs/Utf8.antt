-- The texts of strings are UTF-8 where the strings are.
use Rattle.std.proofs.Common.{◌≡◌, ℕ, zero, suc, ◌<◌, ◌≤◌, Bool, true, ◌&&◌, nat_lt, List, [], ◌∷◌, ◌++◌, flat_map, length, get_or, IsUtf8, inl, inr, refl, sym, ap₂, subst, arith, append-nil, ltb-true}
use Rattle.std.proofs.lemmas.Bool.{and_parts, cases_lt, cases_eq}
use Rattle.std.proofs.lemmas.Bool.Decides.{nat_tests}
use Rattle.std.proofs.lemmas.List.Concat.{flat_map-append}
use Rattle.std.proofs.lemmas.Str.{IsUtf8-append, IsUtf8-nil, IsUtf8-encode, IsUtf8-from_ascii, encode_ascii, inside_one}
use Rattle.std.proofs.lemmas.Str.Ascii.{IsAscii-nil, IsAscii-cons}
use Rattle.std.specs.Str.{IsAscii}
use Rattle.hex.specs.Hex.{encode_lower, lower_digits}
use Rattle.hex.proofs.HexLemmas.{IsAscii-encode_with}
use lib.Utf8.{scalar, scalars, encode, encodes, low_scalar}
use Rattle.nostr_event.specs.declared.draft.Spelling.{Spelling}
use Rattle.nostr_event.specs.declared.draft.Spelling.TheVariants.{Plain, Escaped}
use Rattle.nostr_event.specs.IdText.{byte_text, string_text}

pub ascii_then : (x : ℕ) (xs : List ℕ) → x < 128 → IsUtf8 xs → IsUtf8 (x ∷ xs)
ascii_then x xs small u = IsUtf8-append (x ∷ []) xs (subst IsUtf8 (encode_ascii x small) (IsUtf8-encode x (low_scalar x (omega arith)))) u

abbrev pub are_ascii : List ℕ → Bool
are_ascii [] = true
are_ascii (x ∷ xs) = nat_lt x 128 && are_ascii xs

pub IsUtf8-are_ascii : (xs : List ℕ) → are_ascii xs ≡ true → IsUtf8 xs
IsUtf8-are_ascii [] e = IsUtf8-nil
IsUtf8-are_ascii (x ∷ xs) e = let p = and_parts _ _ e in ascii_then x xs (ltb-true _ _ p.0) (IsUtf8-are_ascii xs p.1)

-- what stands for the bytes below n is ASCII
abbrev texts_below : Spelling → ℕ → Bool
texts_below s zero = true
texts_below s (suc n) = are_ascii (byte_text s n) && texts_below s n

text_below : (s : Spelling) (n : ℕ) → texts_below s n ≡ true → (x : ℕ) → x < n → are_ascii (byte_text s x) ≡ true
text_below s zero e x h = absurd (omega arith)
text_below s (suc n) e x h =
    let p = and_parts _ _ e in
    elim (cases_eq x n) [ inl same ↦ rw same p.0 | inr other ↦ text_below s n p.1 x (omega arith) ]

all_ascii : (s : Spelling) → texts_below s 128 ≡ true
unfolding byte_text
all_ascii Plain = refl
all_ascii Escaped = refl

byte_text_high : (s : Spelling) (x : ℕ) → 128 ≤ x → byte_text s x ≡ x ∷ []
unfolding byte_text
byte_text_high s x h = grind (arith, nat_tests)

text_high : (s : Spelling) (xs : List ℕ) → ((k : ℕ) → k < length xs → 128 ≤ get_or xs k 0) → flat_map (byte_text s) xs ≡ xs
text_high s [] h = refl
text_high s (x ∷ xs) h =
    let high : 128 ≤ x = h 0 (omega arith) in
    ap₂ (λ (a b : List ℕ). a ++ b) (byte_text_high s x high) (text_high s xs (λ k below. h (suc k) (omega arith)))

one_char : (s : Spelling) (c : ℕ) → scalar c ≡ true → IsUtf8 (flat_map (byte_text s) (encode c))
one_char s c ok = elim (cases_lt c 128) [
  | inl small ↦ rw (encode_ascii c small, append-nil) (IsUtf8-are_ascii _ (text_below s 128 (all_ascii s) c small))
  | inr big ↦
      let high : (k : ℕ) → k < length (encode c) → 128 ≤ get_or (encode c) k 0 = λ k below. elim (cases_lt (get_or (encode c) k 0) 128) [
        | inl low ↦ absurd (omega (arith, inside_one c [] (encode c) k (sym (append-nil _)) below low))
        | inr h ↦ h
      ] in
      subst IsUtf8 (sym (text_high s (encode c) high)) (IsUtf8-encode c ok)
]

all_chars : (s : Spelling) (cs : List ℕ) → scalars cs ≡ true → IsUtf8 (flat_map (byte_text s) (encodes cs))
all_chars s [] e = IsUtf8-nil
all_chars s (c ∷ cs) e =
    let p = and_parts _ _ e in
    subst IsUtf8 (sym (flat_map-append (byte_text s) (encode c) (encodes cs))) (IsUtf8-append _ _ (one_char s c p.0) (all_chars s cs p.1))

pub IsUtf8-string_text : (s : Spelling) (text : List ℕ) → IsUtf8 text → IsUtf8 (string_text s text)
IsUtf8-string_text s text u = ascii_then 34 _ (omega arith) (IsUtf8-append _ _ (subst (λ l. IsUtf8 (flat_map (byte_text s) l)) u.1.1 (all_chars s u.0 u.1.0)) (IsUtf8-are_ascii (34 ∷ []) refl))

pub after_ascii : (xs ys : List ℕ) (x : ℕ) → ys ≡ xs ++ x ∷ [] → x < 128 → IsUtf8 xs → IsUtf8 ys
after_ascii xs ys x e small u = subst IsUtf8 (sym e) (IsUtf8-append xs (x ∷ []) u (ascii_then x [] small IsUtf8-nil))

IsAscii-are_ascii : (xs : List ℕ) → are_ascii xs ≡ true → IsAscii xs
IsAscii-are_ascii [] e = IsAscii-nil
IsAscii-are_ascii (x ∷ xs) e = let p = and_parts _ _ e in IsAscii-cons x xs (ltb-true _ _ p.0) (IsAscii-are_ascii xs p.1)

pub digits_utf8 : (bytes : List ℕ) → IsUtf8 (encode_lower bytes)
digits_utf8 bytes = IsUtf8-from_ascii _ (IsAscii-encode_with lower_digits bytes (IsAscii-are_ascii lower_digits refl))
