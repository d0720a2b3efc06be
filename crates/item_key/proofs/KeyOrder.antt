-- Places are in the order of times, then of bytes.
use Rattle.std.proofs.Common.{◌≡◌, ℕ, zero, suc, ◌+◌, ◌*◌, ◌^◌, ◌<◌, ◌⊎◌, inl, inr, List, [], ◌∷◌, length, refl, sym, ap, subst, ◌∙◌, arith}
use Rattle.std.specs.Prelude.{All}
use Rattle.std.proofs.lemmas.List.Elements.{All-tail}
use Rattle.item_key.specs.declared.Id.{Id}
use Rattle.item_key.specs.declared.Item.{Item}
use Rattle.item_key.specs.Keys.{place, number_of_bytes, item_of, IsId, BytesBelow, ComesBefore}
use Rattle.item_key.proofs.Order.{number_below}
use Rattle.item_key.proofs.Order.{three, high_low}

-- as three, at high parts with low parts below the unit
which : (p x y a b : ℕ) → a < p → b < p → x * p + a < y * p + b → (x < y) ⊎ ((x ≡ y) × (a < b))
which p x y a b la lb lt = elim (three x y) [
  | inl h ↦ elim h [ inl less ↦ inl less | inr e ↦ inr (e, let same : x * p ≡ y * p = ap (λ (z : ℕ). z * p) e in omega (arith, same, lt)) ]
  | inr gt ↦ absurd (omega (arith, high_low p y x b a lb la gt, lt))
]

same : (p x y a b : ℕ) → a < p → b < p → x * p + a ≡ y * p + b → (x ≡ y) × (a ≡ b)
same p x y a b la lb is = elim (three x y) [
  | inl h ↦ elim h [
    | inl less ↦ absurd (omega (arith, high_low p x y a b la lb less, is))
    | inr e ↦ (e, let f : x * p ≡ y * p = ap (λ (z : ℕ). z * p) e in omega (arith, f, is))
  ]
  | inr gt ↦ absurd (omega (arith, high_low p y x b a lb la gt, is))
]

below : (p x y a b : ℕ) → a < p → b < p → (x < y) ⊎ ((x ≡ y) × (a < b)) → x * p + a < y * p + b
below p x y a b la lb (inl less) = high_low p x y a b la lb less
below p x y a b la lb (inr h) = let e : x * p ≡ y * p = ap (λ (z : ℕ). z * p) h.0 in omega (arith, e, h.1)

-- ---- bytes

-- bytes, n of them
record Bytes (n : ℕ) (xs : List ℕ) : Type 0 where
  len : length xs ≡ n
  fits : All (λ b. b < 256) xs

rest : (n x : ℕ) (xs : List ℕ) → Bytes (suc n) (x ∷ xs) → Bytes n xs
rest n x xs h = record { len = omega (arith, h.len); fits = All-tail (λ b. b < 256) x xs h.fits }

number_is : (n x : ℕ) (xs : List ℕ) → Bytes n xs → number_of_bytes (x ∷ xs) ≡ x * 256 ^ n + number_of_bytes xs
number_is n x xs h = ap (λ (m : ℕ). x * 256 ^ m + number_of_bytes xs) h.len

number_fits : (n : ℕ) (xs : List ℕ) → Bytes n xs → number_of_bytes xs < 256 ^ n
number_fits n xs h = subst (λ (m : ℕ). number_of_bytes xs < 256 ^ m) h.len (number_below xs h.fits)

bytes_below : (n : ℕ) (xs ys : List ℕ) → Bytes n xs → Bytes n ys → number_of_bytes xs < number_of_bytes ys → BytesBelow xs ys
bytes_below n [] [] hx hy lt = absurd (omega arith)
bytes_below n [] (y ∷ ys) hx hy lt = absurd (omega (arith, hx.len, hy.len))
bytes_below n (x ∷ xs) [] hx hy lt = absurd (omega (arith, hx.len, hy.len))
bytes_below zero (x ∷ xs) (y ∷ ys) hx hy lt = absurd (omega (arith, hx.len))
bytes_below (suc n) (x ∷ xs) (y ∷ ys) hx hy lt =
    let a = rest n x xs hx in
    let b = rest n y ys hy in
    elim (which (256 ^ n) x y (number_of_bytes xs) (number_of_bytes ys) (number_fits n xs a) (number_fits n ys b) (omega (arith, number_is n x xs a, number_is n y ys b, lt))) [
      | inl less ↦ inl less
      | inr h ↦ inr (h.0, bytes_below n xs ys a b h.1)
    ]

below_bytes : (n : ℕ) (xs ys : List ℕ) → Bytes n xs → Bytes n ys → BytesBelow xs ys → number_of_bytes xs < number_of_bytes ys
below_bytes n [] ys hx hy h = absurd h
below_bytes n (x ∷ xs) [] hx hy h = absurd h
below_bytes zero (x ∷ xs) (y ∷ ys) hx hy h = absurd (omega (arith, hx.len))
below_bytes (suc n) (x ∷ xs) (y ∷ ys) hx hy (inl less) =
    let a = rest n x xs hx in
    let b = rest n y ys hy in
    omega (arith, number_is n x xs a, number_is n y ys b, below (256 ^ n) x y (number_of_bytes xs) (number_of_bytes ys) (number_fits n xs a) (number_fits n ys b) (inl less))
below_bytes (suc n) (x ∷ xs) (y ∷ ys) hx hy (inr h) =
    let a = rest n x xs hx in
    let b = rest n y ys hy in
    omega (arith, number_is n x xs a, number_is n y ys b, below (256 ^ n) x y (number_of_bytes xs) (number_of_bytes ys) (number_fits n xs a) (number_fits n ys b) (inr (h.0, below_bytes n xs ys a b h.1)))

same_bytes : (n : ℕ) (xs ys : List ℕ) → Bytes n xs → Bytes n ys → number_of_bytes xs ≡ number_of_bytes ys → xs ≡ ys
same_bytes n [] [] hx hy is = refl
same_bytes n [] (y ∷ ys) hx hy is = absurd (omega (arith, hx.len, hy.len))
same_bytes n (x ∷ xs) [] hx hy is = absurd (omega (arith, hx.len, hy.len))
same_bytes zero (x ∷ xs) (y ∷ ys) hx hy is = absurd (omega (arith, hx.len))
same_bytes (suc n) (x ∷ xs) (y ∷ ys) hx hy is =
    let a = rest n x xs hx in
    let b = rest n y ys hy in
    let h = same (256 ^ n) x y (number_of_bytes xs) (number_of_bytes ys) (number_fits n xs a) (number_fits n ys b) (sym (number_is n x xs a) ∙ is ∙ number_is n y ys b) in
    ap (λ (z : ℕ). z ∷ xs) h.0 ∙ ap (λ (z : List ℕ). y ∷ z) (same_bytes n xs ys a b h.1)

-- ---- keys

id_bytes : (id : Id) → IsId id → Bytes 32 id.0
id_bytes id is = record { len = is.len; fits = is.bytes }

pub place_order : (a b : Item) → IsId a.id → IsId b.id → (place a < place b → ComesBefore a b) × (ComesBefore a b → place a < place b)
unfolding place
place_order a b ia ib =
    let ha = id_bytes a.id ia in
    let hb = id_bytes b.id ib in
    let na = number_of_bytes a.id.0 in
    let nb = number_of_bytes b.id.0 in
    let to = λ (lt : a.time * 256 ^ 32 + na < b.time * 256 ^ 32 + nb). parts a b ha hb (which (256 ^ 32) a.time b.time na nb (number_fits 32 a.id.0 ha) (number_fits 32 b.id.0 hb) lt) in
    let from = λ (h : ComesBefore a b). below (256 ^ 32) a.time b.time na nb (number_fits 32 a.id.0 ha) (number_fits 32 b.id.0 hb) (numbers a b ha hb h) in
    (to, from)
  where
    parts : (a b : Item) → Bytes 32 a.id.0 → Bytes 32 b.id.0 → (a.time < b.time) ⊎ ((a.time ≡ b.time) × (number_of_bytes a.id.0 < number_of_bytes b.id.0)) → ComesBefore a b
    parts a b ha hb (inl less) = inl less
    parts a b ha hb (inr h) = inr (h.0, bytes_below 32 a.id.0 b.id.0 ha hb h.1)

    numbers : (a b : Item) → Bytes 32 a.id.0 → Bytes 32 b.id.0 → ComesBefore a b → (a.time < b.time) ⊎ ((a.time ≡ b.time) × (number_of_bytes a.id.0 < number_of_bytes b.id.0))
    numbers a b ha hb (inl less) = inl less
    numbers a b ha hb (inr h) = inr (h.0, below_bytes 32 a.id.0 b.id.0 ha hb h.1)

pub one_place : (a b : Item) → IsId a.id → IsId b.id → place a ≡ place b → a ≡ b
unfolding place
one_place a b ia ib is =
    let ha = id_bytes a.id ia in
    let hb = id_bytes b.id ib in
    let h = same (256 ^ 32) a.time b.time (number_of_bytes a.id.0) (number_of_bytes b.id.0) (number_fits 32 a.id.0 ha) (number_fits 32 b.id.0 hb) is in
    ap (λ (t : ℕ). item_of t a.id.0) h.0 ∙ ap (item_of b.time) (same_bytes 32 a.id.0 b.id.0 ha hb h.1)
