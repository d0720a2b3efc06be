-- Bytes and their digits, one after another.
use Rattle.std.proofs.Common.{◌≡◌, ◌≢◌, ℕ, zero, suc, ◌+◌, ◌*◌, ◌/◌, ◌%◌, ◌<◌, ◌≤◌, ◌⊎◌, inl, inr, All, List, [], ◌∷◌, ◌++◌, length, map, take, drop, get_or, slice_index, set, length-set, refl, ap, sym, ◌∙◌, append_assoc, arith}
use Rattle.std.proofs.lemmas.List.{take_more, take_more_set, map-append, take-append-drop}
use Rattle.std.proofs.Math.Seq.{drop-append_seam}
use Rattle.std.proofs.lemmas.List.Elements.{All-head, All-tail}
use Rattle.hex.specs.Hex.{encode_lower, encode_with, lower_digits}
use Rattle.hex.proofs.HexLemmas.{length-encode_with}
use Rattle.item_key.specs.declared.Id.{Id}
use Rattle.item_key.specs.Keys.{IsId}

-- the digits of a byte
abbrev pub high_digit : ℕ → ℕ
high_digit b = slice_index lower_digits (b / 16)

abbrev pub low_digit : ℕ → ℕ
low_digit b = slice_index lower_digits (b % 16)

pub encode-append : (xs ys : List ℕ) → encode_lower (xs ++ ys) ≡ encode_lower xs ++ encode_lower ys
unfolding encode_with
encode-append [] ys = refl
encode-append (x ∷ xs) ys = ap (λ t. high_digit x ∷ low_digit x ∷ t) (encode-append xs ys)

encode-one : (b : ℕ) → encode_lower (b ∷ []) ≡ high_digit b ∷ low_digit b ∷ []
unfolding encode_with
encode-one b = refl

pub encode-high : (xs : List ℕ) (k : ℕ) → k < length xs → get_or (encode_lower xs) (2 * k) 0 ≡ high_digit (get_or xs k 0)
unfolding encode_with
encode-high [] k within = absurd (omega arith)
encode-high (b ∷ bs) zero within = refl
encode-high (b ∷ bs) (suc k) within = let e : 2 * suc k ≡ suc (suc (2 * k)) = omega arith in rw e (encode-high bs k (omega arith))

pub encode-low : (xs : List ℕ) (k : ℕ) → k < length xs → get_or (encode_lower xs) (2 * k + 1) 0 ≡ low_digit (get_or xs k 0)
unfolding encode_with
encode-low [] k within = absurd (omega arith)
encode-low (b ∷ bs) zero within = refl
encode-low (b ∷ bs) (suc k) within = let e : 2 * suc k + 1 ≡ suc (suc (2 * k + 1)) = omega arith in rw e (encode-low bs k (omega arith))

-- one byte more
pub encode_more : (text id : List ℕ) (i b : ℕ) → i < length id → 2 * i + 1 < length text
    → get_or text (2 * i) 0 ≡ high_digit b → get_or text (2 * i + 1) 0 ≡ low_digit b
    → take (2 * i) text ≡ encode_lower (take i id)
    → take (2 * (i + 1)) text ≡ encode_lower (take (i + 1) (set id i b))
encode_more text id i b within more high low so_far =
    let twice : 2 * (i + 1) ≡ 2 * i + 1 + 1 = omega arith in
    let second = take_more text (2 * i + 1) 0 more in
    let first = take_more text (2 * i) 0 (omega arith) in
    let left : take (2 * (i + 1)) text ≡ (encode_lower (take i id) ++ high_digit b ∷ []) ++ low_digit b ∷ [] = rw (twice, second, first, so_far, high, low) refl in
    let right : encode_lower (take (i + 1) (set id i b)) ≡ encode_lower (take i id) ++ (high_digit b ∷ low_digit b ∷ []) =
    ap encode_lower (take_more_set id i b within) ∙ encode-append (take i id) (b ∷ []) ∙ ap (λ t. encode_lower (take i id) ++ t) (encode-one b) in
    left ∙ append_assoc (encode_lower (take i id)) (high_digit b ∷ []) (low_digit b ∷ []) ∙ sym right

-- two digits more
pub digits_more : (text id : List ℕ) (i high low : ℕ) → length text ≡ 64 → i < length id → 2 * i + 1 < 64
    → high ≡ high_digit (get_or id i 0) → low ≡ low_digit (get_or id i 0)
    → take (2 * i) text ≡ encode_lower (take i id)
    → take (2 * (i + 1)) (set (set text (2 * i) high) (2 * i + 1) low) ≡ encode_lower (take (i + 1) id)
digits_more text id i high low len within small is_high is_low so_far =
    let b = get_or id i 0 in
    let twice : 2 * (i + 1) ≡ 2 * i + 1 + 1 = omega arith in
    let second = take_more_set (set text (2 * i) high) (2 * i + 1) low (omega (arith, length-set text (2 * i) high, len)) in
    let first = take_more_set text (2 * i) high (omega (arith, len)) in
    let left : take (2 * (i + 1)) (set (set text (2 * i) high) (2 * i + 1) low) ≡ (encode_lower (take i id) ++ high_digit b ∷ []) ++ low_digit b ∷ [] = rw (twice, second, first, so_far, is_high, is_low) refl in
    let right : encode_lower (take (i + 1) id) ≡ encode_lower (take i id) ++ (high_digit b ∷ low_digit b ∷ []) =
    ap encode_lower (take_more id i 0 within) ∙ encode-append (take i id) (b ∷ []) ∙ ap (λ t. encode_lower (take i id) ++ t) (encode-one b) in
    left ∙ append_assoc (encode_lower (take i id)) (high_digit b ∷ []) (low_digit b ∷ []) ∙ sym right

-- one of the first n bytes is no lower-case digit
pub record HasStray (text : List ℕ) (n : ℕ) : Type 0 where
  pub at : ℕ
  pub before : at < n
  pub stray : (d : ℕ) → d < 16 → get_or text at 0 ≢ slice_index lower_digits d

-- one digit more
pub values_more : (text values : List ℕ) (i value : ℕ) → i < length text → i < length values → get_or text i 0 ≡ slice_index lower_digits value
    → take i text ≡ map (slice_index lower_digits) (take i values)
    → take (i + 1) text ≡ map (slice_index lower_digits) (take (i + 1) (set values i value))
values_more text values i value of_text of_values is so_far =
    let digit = slice_index lower_digits in
    take_more text i 0 of_text ∙ rw (so_far, is) refl ∙ sym (map-append digit (take i values) (value ∷ [])) ∙ ap (map digit) (sym (take_more_set values i value of_values))

-- one byte more
pub stray_more : (text : List ℕ) (i most value new : ℕ) → 16 ≤ new → (new ≡ most) ⊎ (new ≡ value)
    → (16 ≤ most → HasStray text i)
    → (16 ≤ value → (d : ℕ) → d < 16 → get_or text i 0 ≢ slice_index lower_digits d)
    → HasStray text (i + 1)
stray_more text i most value new large is was of_value = elim is [
  | inl e ↦ let s = was (omega (arith, e, large)) in record { at = s.at; before = omega (arith, s.before); stray = s.stray }
  | inr e ↦ record { at = i; before = omega arith; stray = of_value (omega (arith, e, large)) }
]

-- the digits of bytes are lower-case digits
is_digit : (bytes : List ℕ) (k : ℕ) → All (λ b. b < 256) bytes → k < 2 * length bytes → (d : ℕ) × (d < 16) × (get_or (encode_lower bytes) k 0 ≡ slice_index lower_digits d)
unfolding encode_with
is_digit [] k small within = absurd (omega arith)
is_digit (b ∷ bs) zero small within = (b / 16, omega (arith, All-head (λ b. b < 256) b bs small), refl)
is_digit (b ∷ bs) (suc zero) small within = (b % 16, omega arith, refl)
is_digit (b ∷ bs) (suc (suc k)) small within = is_digit bs k (All-tail (λ b. b < 256) b bs small) (omega (arith, within))

-- so a text with another byte is that of no id
pub no_stray : (text : List ℕ) (id : Id) → IsId id → text ≡ encode_lower id.0 → (n : ℕ) → HasStray text n → n ≤ 64 → ⊥
no_stray text id is same n s le =
    let d = is_digit id.0 s.at is.bytes (omega (arith, s.before, is.len, le)) in
    s.stray d.0 d.1 (ap (λ t. get_or t s.at 0) same ∙ d.2)

-- two digits, of one byte
pub two_digits : (pair : List ℕ) (b : ℕ) → length pair ≡ 2 → get_or pair 0 0 ≡ high_digit b → get_or pair 1 0 ≡ low_digit b → pair ≡ encode_lower (b ∷ [])
two_digits [] b len high low = absurd (omega (arith, len))
two_digits (x ∷ []) b len high low = absurd (omega (arith, len))
two_digits (x ∷ y ∷ []) b len high low = rw (encode-one b, high, low) refl
two_digits (x ∷ y ∷ z ∷ rest) b len high low = absurd (omega (arith, len))

pub one_high : (pair : List ℕ) (b : ℕ) → pair ≡ encode_lower (b ∷ []) → get_or pair 0 0 ≡ high_digit b
one_high pair b same = ap (λ t. get_or t 0 0) (same ∙ encode-one b)

pub one_low : (pair : List ℕ) (b : ℕ) → pair ≡ encode_lower (b ∷ []) → get_or pair 1 0 ≡ low_digit b
one_low pair b same = ap (λ t. get_or t 1 0) (same ∙ encode-one b)

-- some bytes more
pub block_more : (text done rest block : List ℕ) (n : ℕ) → text ≡ encode_lower done ++ rest → take n rest ≡ encode_lower block → text ≡ encode_lower (done ++ block) ++ drop n rest
block_more text done rest block n so_far front =
    so_far ∙ ap (λ t. encode_lower done ++ t) (sym (take-append-drop n rest) ∙ ap (λ t. t ++ drop n rest) front)
    ∙ sym (append_assoc (encode_lower done) (encode_lower block) (drop n rest)) ∙ ap (λ t. t ++ drop n rest) (sym (encode-append done block))

encode-drop : (n : ℕ) (xs : List ℕ) → drop (2 * n) (encode_lower xs) ≡ encode_lower (drop n xs)
unfolding encode_with
encode-drop zero xs = refl
encode-drop (suc n) [] = let e : 2 * suc n ≡ suc (suc (2 * n)) = omega arith in rw e refl
encode-drop (suc n) (x ∷ xs) = let e : 2 * suc n ≡ suc (suc (2 * n)) = omega arith in rw e (encode-drop n xs)

encode-take : (n : ℕ) (xs : List ℕ) → take (2 * n) (encode_lower xs) ≡ encode_lower (take n xs)
unfolding encode_with
encode-take zero xs = refl
encode-take (suc n) [] = let e : 2 * suc n ≡ suc (suc (2 * n)) = omega arith in rw e refl
encode-take (suc n) (x ∷ xs) = let e : 2 * suc n ≡ suc (suc (2 * n)) = omega arith in rw e (ap (λ t. high_digit x ∷ low_digit x ∷ t) (encode-take n xs))

-- where a text is that of bytes, what is left is that of the others
pub left_told : (text done rest bytes : List ℕ) → text ≡ encode_lower done ++ rest → text ≡ encode_lower bytes → rest ≡ encode_lower (drop (length done) bytes)
left_told text done rest bytes so_far same =
    let start = length (encode_lower done) in
    sym (ap (drop start) so_far ∙ drop-append_seam (encode_lower done) rest) ∙ ap (drop start) same
    ∙ ap (λ k. drop k (encode_lower bytes)) (length-encode_with lower_digits done) ∙ encode-drop (length done) bytes

-- and its front that of the next ones
pub front_told : (rest bytes : List ℕ) (n : ℕ) → rest ≡ encode_lower bytes → take (2 * n) rest ≡ encode_lower (take n bytes)
front_told rest bytes n same = ap (take (2 * n)) same ∙ encode-take n bytes

-- bytes are half as many as their digits
pub half_as_many : (digits bytes : List ℕ) → digits ≡ encode_lower bytes → length digits ≡ 2 * length bytes
half_as_many digits bytes same = ap length same ∙ length-encode_with lower_digits bytes

-- a list of one byte
pub one_byte : (bytes : List ℕ) → length bytes ≡ 1 → All (λ b. b < 256) bytes → (b : ℕ) × (b < 256) × (bytes ≡ b ∷ [])
one_byte [] len small = absurd (omega (arith, len))
one_byte (b ∷ []) len small = (b, All-head (λ b. b < 256) b [] small, refl)
one_byte (b ∷ x ∷ rest) len small = absurd (omega (arith, len))
