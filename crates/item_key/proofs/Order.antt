-- The order of keys is that of their places.
use Rattle.std.proofs.Common.{◌≡◌, ℕ, suc, ◌+◌, ◌*◌, ◌^◌, ◌<◌, ◌≤◌, ◌⊎◌, inl, inr, true, false, List, [], ◌∷◌, length, get_or, refl, sym, ap, subst, ◌∙◌, arith}
use Rattle.std.specs.Prelude.{All}
use Rattle.std.specs.declared.cmp.Ordering.{Ordering}
use Rattle.std.specs.declared.cmp.Ordering.TheVariants.{Less, Equal, Greater}
use Rattle.std.specs.Ordering.{nat_cmp, ordering_then, is_lt}
use Rattle.std.specs.Cmp.Lexicographic.{slice_cmp}
use Rattle.std.proofs.Math.Nat.{mul-le-mul_right, pow-suc}
use Rattle.std.proofs.lemmas.Bool.{cases_lt, lt-ltb, le-ltb, eq-eqb, ne_eqb}
use Rattle.std.proofs.lemmas.List.Elements.{All-head, All-tail, All-from_get_or}
use Rattle.item_key.specs.declared.Item.{Item}
use Rattle.item_key.specs.Keys.{place, number_of_bytes, IsId}

-- ---- which way two numbers compare

cmp_less : (a b : ℕ) → a < b → nat_cmp a b ≡ Less
cmp_less a b lt = rw (lt-ltb a b lt) refl

cmp_equal : (a b : ℕ) → a ≡ b → nat_cmp a b ≡ Equal
cmp_equal a b e = rw (le-ltb a b (omega arith), eq-eqb a b e) refl

cmp_greater : (a b : ℕ) → b < a → nat_cmp a b ≡ Greater
cmp_greater a b lt = rw (le-ltb a b (omega arith), ne_eqb a b (λ e. omega arith)) refl

pub three : (a b : ℕ) → ((a < b) ⊎ (a ≡ b)) ⊎ (b < a)
three a b = elim (cases_lt a b) [ inl lt ↦ inl (inl lt) | inr le ↦ elim (cases_lt b a) [ inl gt ↦ inr gt | inr ge ↦ inl (inr (omega arith)) ] ]

cmp_shift : (c a b : ℕ) → nat_cmp (c + a) (c + b) ≡ nat_cmp a b
cmp_shift c a b = elim (three a b) [
  | inl h ↦ elim h [
    | inl lt ↦ cmp_less (c + a) (c + b) (omega arith) ∙ sym (cmp_less a b lt)
    | inr e ↦ cmp_equal (c + a) (c + b) (omega arith) ∙ sym (cmp_equal a b e)
  ]
  | inr gt ↦ cmp_greater (c + a) (c + b) (omega arith) ∙ sym (cmp_greater a b gt)
]

-- a high part, then a low part below the unit
pub high_low : (p x y a b : ℕ) → a < p → b < p → x < y → x * p + a < y * p + b
high_low p x y a b la lb lt =
    let m : suc x * p ≤ y * p = mul-le-mul_right p (let h : suc x ≤ y = omega arith in h) in
    let e : suc x * p ≡ x * p + p = omega arith in
    omega (arith, m, e)

pub then_parts : (p x y a b : ℕ) (o : Ordering) → a < p → b < p → o ≡ nat_cmp a b → ordering_then (nat_cmp x y) o ≡ nat_cmp (x * p + a) (y * p + b)
then_parts p x y a b o la lb is = elim (three x y) [
  | inl h ↦ elim h [
    | inl lt ↦ rw (cmp_less x y lt, cmp_less (x * p + a) (y * p + b) (high_low p x y a b la lb lt)) refl
    | inr e ↦ rw (cmp_equal x y e) (is ∙ sym (ap (λ (z : ℕ). nat_cmp (z * p + a) (y * p + b)) e ∙ cmp_shift (y * p) a b))
  ]
  | inr gt ↦ rw (cmp_greater x y gt, cmp_greater (x * p + a) (y * p + b) (high_low p y x b a lb la gt)) refl
]

-- bytes as a number lie below the power of their count
pub number_below : (bs : List ℕ) → All (λ b. b < 256) bs → number_of_bytes bs < 256 ^ length bs
number_below [] fits = omega arith
number_below (b ∷ bs) fits =
    let ih = number_below bs (All-tail (λ b. b < 256) b bs fits) in
    let p : 256 ^ suc (length bs) ≡ 256 ^ length bs * 256 = pow-suc 256 (length bs) in
    let d : b ≤ 255 = omega (arith, All-head (λ b. b < 256) b bs fits) in
    let m : b * 256 ^ length bs ≤ 255 * 256 ^ length bs = mul-le-mul_right (256 ^ length bs) d in
    omega (arith, ih, p, m)

-- bytes of one length compare as their numbers
pub bytes_cmp : (xs ys : List ℕ) → length xs ≡ length ys → All (λ b. b < 256) xs → All (λ b. b < 256) ys → slice_cmp nat_cmp xs ys ≡ nat_cmp (number_of_bytes xs) (number_of_bytes ys)
bytes_cmp [] [] e fx fy = refl
bytes_cmp [] (y ∷ ys) e fx fy = absurd (omega arith)
bytes_cmp (x ∷ xs) [] e fx fy = absurd (omega arith)
bytes_cmp (x ∷ xs) (y ∷ ys) e fx fy =
    let len : length xs ≡ length ys = omega arith in
    let tx = All-tail (λ b. b < 256) x xs fx in
    let ty = All-tail (λ b. b < 256) y ys fy in
    let lx : number_of_bytes xs < 256 ^ length ys = subst (λ (n : ℕ). number_of_bytes xs < 256 ^ n) len (number_below xs tx) in
    let both = then_parts (256 ^ length ys) x y (number_of_bytes xs) (number_of_bytes ys) (slice_cmp nat_cmp xs ys) lx (number_below ys ty) (bytes_cmp xs ys len tx ty) in
    both ∙ ap (λ (n : ℕ). nat_cmp (x * 256 ^ n + number_of_bytes xs) (y * 256 ^ length ys + number_of_bytes ys)) (sym len)

pub all_bytes : (xs : List ℕ) → ((i : ℕ) → get_or xs i 0 < 256) → All (λ b. b < 256) xs
all_bytes xs fits = All-from_get_or (λ b. b < 256) xs 0 (λ i lt. fits i)

-- keys compare as their places: by time, then by the bytes of the id
pub key_cmp : (a b : Item) → IsId a.id → IsId b.id → ordering_then (nat_cmp a.time b.time) (slice_cmp nat_cmp a.id.0 b.id.0) ≡ nat_cmp (place a) (place b)
unfolding place
key_cmp a b ia ib =
    let la : number_of_bytes a.id.0 < 256 ^ 32 = subst (λ (n : ℕ). number_of_bytes a.id.0 < 256 ^ n) ia.len (number_below a.id.0 ia.bytes) in
    let lb : number_of_bytes b.id.0 < 256 ^ 32 = subst (λ (n : ℕ). number_of_bytes b.id.0 < 256 ^ n) ib.len (number_below b.id.0 ib.bytes) in
    then_parts (256 ^ 32) a.time b.time (number_of_bytes a.id.0) (number_of_bytes b.id.0) (slice_cmp nat_cmp a.id.0 b.id.0) la lb (bytes_cmp a.id.0 b.id.0 (ia.len ∙ sym ib.len) ia.bytes ib.bytes)

pub lt_cmp : (a b : ℕ) → (is_lt (nat_cmp a b) ≡ true → a < b) × (a < b → is_lt (nat_cmp a b) ≡ true)
lt_cmp a b = elim (three a b) [
  | inl h ↦ elim h [
    | inl lt ↦ (λ e. lt, λ l. rw (cmp_less a b lt) refl)
    | inr is ↦ (λ e. absurd (let f : is_lt (nat_cmp a b) ≡ false = rw (cmp_equal a b is) refl in cc), λ l. absurd (omega arith))
  ]
  | inr gt ↦ (λ e. absurd (let f : is_lt (nat_cmp a b) ≡ false = rw (cmp_greater a b gt) refl in cc), λ l. absurd (omega arith))
]
