-- Each number has one spelling.
use Rattle.std.proofs.Common.{◌≡◌, ◌≢◌, ℕ, zero, suc, ◌+◌, ◌*◌, ◌/◌, ◌%◌, ◌^◌, ◌<◌, ◌≤◌, inl, inr, Bool, true, false, cond, eqb, List, [], ◌∷◌, ◌++◌, length, refl, sym, ap, subst, ◌∙◌, append_assoc, arith}
use Rattle.std.proofs.Math.Nat.{pow-suc, mul-le-mul_right, pow-le-pow_right}
use Rattle.std.proofs.lemmas.Bool.{cases_lt, eqb-true, eqb-false}
use Rattle.neg_varint.specs.Spelling.{number_of, IsMarked, HasNoPadding, IsSpelling, marked_digits, spelling}
use Rattle.neg_varint.proofs.Laws.{step_value, marked_cons}
use Rattle.neg_varint.proofs.Digits.{number_below}

-- digits before a text that is marked to its end
pub record Before (n : ℕ) (tail text : List ℕ) : Type 0 where
  pub marked : IsMarked text
  pub value : number_of text ≡ n * 128 ^ length tail + number_of tail
  pub unpadded : (n ≡ 0 → HasNoPadding tail) → HasNoPadding text

spell_before : (k n : ℕ) (tail : List ℕ) → n < 128 ^ k → IsMarked tail → Before n tail (marked_digits k n ++ tail)
spell_before zero n tail lt m =
    let none : n ≡ 0 = omega arith in
    record { marked = m; value = rw none (omega arith); unpadded = λ h. h none }
spell_before (suc k) n tail lt m = go (eqb n 0) refl
    (spell_before k (n / 128) ((128 + n % 128) ∷ tail) (let p : 128 ^ suc k ≡ 128 ^ k * 128 = pow-suc 128 k in omega arith) (marked_cons (128 + n % 128) tail (omega arith) (omega arith) m))
  where
    go : (b : Bool) → eqb n 0 ≡ b → Before (n / 128) ((128 + n % 128) ∷ tail) (marked_digits k (n / 128) ++ ((128 + n % 128) ∷ tail)) → Before n tail (cond b [] (marked_digits k (n / 128) ++ (128 + n % 128) ∷ []) ++ tail)
    go true is again = let none : n ≡ 0 = eqb-true _ _ is in record { marked = m; value = rw none (omega arith); unpadded = λ h. h none }
    go false is again =
        let some : n ≢ 0 = eqb-false _ _ is in
        let split : 128 * (n / 128) + n % 128 ≡ n = omega arith in
        let low : (128 + n % 128) % 128 ≡ n % 128 = omega arith in
        let one = step_value (n / 128) (n % 128) (128 ^ length tail) (128 ^ suc (length tail)) (number_of tail) (pow-suc 128 (length tail)) in
        let all : Before n tail (marked_digits k (n / 128) ++ ((128 + n % 128) ∷ tail)) = record {
          marked = again.marked;
          value = again.value ∙ ap (λ (x : ℕ). n / 128 * 128 ^ suc (length tail) + (x * 128 ^ length tail + number_of tail)) low ∙ sym one ∙ ap (λ (x : ℕ). x * 128 ^ length tail + number_of tail) split;
          unpadded = λ h. again.unpadded (λ z e. absurd (some (omega arith)));
        } in
        subst (Before n tail) (sym (append_assoc (marked_digits k (n / 128)) ((128 + n % 128) ∷ []) tail)) all

-- the spelling spells
pub spelling_spells : (n : ℕ) → n < 2 ^ 64 → IsSpelling n (spelling n)
unfolding spelling
spelling_spells n lt =
    let b = spell_before 9 (n / 128) ((n % 128) ∷ []) (omega arith) (omega arith) in
    record { value = sym (b.value ∙ whole); marked = b.marked; unpadded = b.unpadded (λ z e. omega arith); in_range = lt }
  where
    whole : n / 128 * 128 ^ 1 + ((n % 128) % 128 * 128 ^ 0 + 0) ≡ n
    whole = omega arith

-- ---- no other does

same_high : (p x y a b : ℕ) → a < p → b < p → x * p + a ≡ y * p + b → x ≡ y
same_high p x y a b la lb e = elim (cases_lt x y) [
  | inl lt ↦ absurd (let m : suc x * p ≤ y * p = mul-le-mul_right p (let h : suc x ≤ y = omega arith in h) in let f : suc x * p ≡ x * p + p = omega arith in omega arith)
  | inr le ↦ elim (cases_lt y x) [
    | inl gt ↦ absurd (let m : suc y * p ≤ x * p = mul-le-mul_right p (let h : suc y ≤ x = omega arith in h) in let f : suc y * p ≡ y * p + p = omega arith in omega arith)
    | inr ge ↦ omega arith
  ]
]

-- marked bytes with the same low bits, in the same place, are the same
same_byte : (b c : ℕ) (bs cs : List ℕ) → length bs ≡ length cs → IsMarked (b ∷ bs) → IsMarked (c ∷ cs) → b % 128 ≡ c % 128 → b ≡ c
same_byte b c [] [] e mb mc h = omega arith
same_byte b c [] (y ∷ cs) e mb mc h = absurd (omega arith)
same_byte b c (x ∷ bs) [] e mb mc h = absurd (omega arith)
same_byte b c (x ∷ bs) (y ∷ cs) e mb mc h = omega (arith, mb.0, mb.1, mc.0, mc.1, h)

marked_rest : (b : ℕ) (bs : List ℕ) → 0 < length bs → IsMarked (b ∷ bs) → IsMarked bs
marked_rest b [] some m = absurd (omega arith)
marked_rest b (c ∷ bs) some m = m.2

same_digits : (us bs : List ℕ) → length us ≡ length bs → (0 < length us → IsMarked us) → (0 < length bs → IsMarked bs) → number_of us ≡ number_of bs → us ≡ bs
same_digits [] [] e ma mb h = refl
same_digits [] (b ∷ bs) e ma mb h = absurd (omega arith)
same_digits (a ∷ us) [] e ma mb h = absurd (omega arith)
same_digits (a ∷ us) (b ∷ bs) e ma mb h =
    let len : length us ≡ length bs = omega arith in
    let la : number_of us < 128 ^ length bs = subst (λ (n : ℕ). number_of us < 128 ^ n) len (number_below us) in
    let both : (a % 128) * 128 ^ length bs + number_of us ≡ (b % 128) * 128 ^ length bs + number_of bs = subst (λ (n : ℕ). (a % 128) * 128 ^ n + number_of us ≡ (b % 128) * 128 ^ length bs + number_of bs) len h in
    let high = same_high (128 ^ length bs) (a % 128) (b % 128) (number_of us) (number_of bs) la (number_below bs) both in
    let first = same_byte a b us bs len (ma (omega arith)) (mb (omega arith)) high in
    let low : number_of us ≡ number_of bs = omega (arith, both, ap (λ (x : ℕ). x * 128 ^ length bs) high) in
    let rest = same_digits us bs len (λ s. marked_rest a us s (ma (omega arith))) (λ s. marked_rest b bs s (mb (omega arith))) low in
    ap (λ (x : ℕ). x ∷ us) first ∙ ap (λ (x : List ℕ). b ∷ x) rest

-- a text that isn't padded has a first digit
high_digit : (n : ℕ) (b c : ℕ) (bs : List ℕ) → IsSpelling n (b ∷ c ∷ bs) → 128 ^ length (c ∷ bs) ≤ n
high_digit n b c bs s =
    let some : 1 ≤ b % 128 = omega (arith, s.marked.0, s.marked.1, s.unpadded) in
    let m : 1 * 128 ^ length (c ∷ bs) ≤ (b % 128) * 128 ^ length (c ∷ bs) = mul-le-mul_right (128 ^ length (c ∷ bs)) some in
    omega (arith, s.value, m)

not_longer : (n : ℕ) (us bs : List ℕ) → IsSpelling n us → IsSpelling n bs → length us < length bs → ⊥
not_longer n us [] sa sb lt = omega arith
not_longer n [] (b ∷ []) sa sb lt = absurd sa.marked
not_longer n (a ∷ us) (b ∷ []) sa sb lt = omega arith
not_longer n us (b ∷ c ∷ bs) sa sb lt =
    let top = high_digit n b c bs sb in
    let low = number_below us in
    let up : 128 ^ length us ≤ 128 ^ length (c ∷ bs) = pow-le-pow_right (let h : 0 < 128 = omega arith in h) (let l : length us ≤ length (c ∷ bs) = omega arith in l) in
    omega (arith, top, low, up, sa.value)

pub one_spelling : (n : ℕ) (us bs : List ℕ) → IsSpelling n us → IsSpelling n bs → us ≡ bs
one_spelling n us bs sa sb =
    let len : length us ≡ length bs = elim (cases_lt (length us) (length bs)) [
      | inl lt ↦ absurd (not_longer n us bs sa sb lt)
      | inr le ↦ elim (cases_lt (length bs) (length us)) [ inl gt ↦ absurd (not_longer n bs us sb sa gt) | inr ge ↦ omega arith ]
    ] in
    same_digits us bs len (λ s. sa.marked) (λ s. sb.marked) (sym sa.value ∙ sb.value)

-- one digit spells itself
pub short_spelling : (n : ℕ) → n < 128 → spelling n ≡ n ∷ []
unfolding spelling
short_spelling n lt =
    let none : n / 128 ≡ 0 = omega arith in
    let all : n % 128 ≡ n = omega arith in
    rw (none, all) refl

pub spelling_is : (n : ℕ) (text : List ℕ) → IsSpelling n text → text ≡ spelling n
spelling_is n text s = one_spelling n text (spelling n) s (spelling_spells n s.in_range)
