-- A piece of a roll that lies in one chunk, and the sum of a piece.
use Rattle.std.proofs.Common.{◌≡◌, ℕ, zero, suc, ◌+◌, ◌-◌, ◌%◌, ◌^◌, ◌<◌, ◌≤◌, List, [], ◌∷◌, ◌++◌, length, take, drop, get_or, length-append, refl, sym, ap, ◌∙◌, arith}
use Rattle.std.specs.List.{slice_range}
use Rattle.std.proofs.Math.Seq.{take-add, drop-append-add}
use Rattle.std.proofs.lemmas.List.{take-append-le, length-drop, map-append}
use Rattle.item_key.specs.declared.Item.{Item}
use Rattle.item_roll.specs.declared.entries.Entry.{Entry}
use Rattle.item_roll.specs.Parts.{ids_of}
use Rattle.item_roll.specs.Sums.{sum_at}
use Rattle.item_roll.specs.Chunks.{items_at, joined, starts, Tells, IsAt}
use Rattle.item_roll.proofs.Totals.{sum_append, sum_small}
use Rattle.item_roll.proofs.Kept.{before_is}

drop_front : (xs ys : List Item) (j : ℕ) → j ≤ length xs → drop j (xs ++ ys) ≡ drop j xs ++ ys
drop_front xs ys zero le = refl
drop_front [] ys (suc j) le = absurd (omega arith)
drop_front (x ∷ xs) ys (suc j) le = drop_front xs ys j (omega arith)

in_chunk : {V : Type 0} → (its : V → List Item) (es : List (Entry V)) (i j k : ℕ) (d : Entry V) → i < length es → j + k ≤ length (items_at its (get_or es i d)) → take k (drop (starts its es i + j) (joined its es)) ≡ take k (drop j (items_at its (get_or es i d)))
in_chunk {V} its [] i j k d lt le = absurd (omega arith)
in_chunk {V} its (e ∷ es) zero j k d lt le =
    let front : drop (0 + j) (items_at its e ++ joined its es) ≡ drop j (items_at its e) ++ joined its es = let z : 0 + j ≡ j = omega arith in rw z (drop_front (items_at its e) (joined its es) j (omega arith)) in
    ap (λ (xs : List Item). take k xs) front ∙ take-append-le k (drop j (items_at its e)) (joined its es) (omega (arith, le, length-drop j (items_at its e)))
in_chunk {V} its (e ∷ es) (suc i) j k d lt le =
    let n : starts its (e ∷ es) (suc i) + j ≡ length (items_at its e) + (starts its es i + j) = omega (arith, length-append (items_at its e) (joined its (take i es))) in
    ap (λ (m : ℕ). take k (drop m (items_at its e ++ joined its es))) n ∙ ap (λ (xs : List Item). take k xs) (drop-append-add (items_at its e) (joined its es) (starts its es i + j))
    ∙ in_chunk its es i j k d (omega arith) le

-- the items of one chunk from a place on
piece_at : {V : Type 0} → (its : V → List Item) (top : ℕ) (es : List (Entry V)) (i p k : ℕ) (e : Entry V) → Tells its top 0 0 es → IsAt its es p i → e ≡ get_or es i e → p - e.before + k ≤ length (items_at its e)
    → take k (drop (p - e.before) (items_at its e)) ≡ slice_range (joined its es) p (p + k)
piece_at {V} its top es i p k e tells there is le =
    let b = before_is its top es i e tells there.within is in
    let from : starts its es i + (p - e.before) ≡ p = omega (arith, b, there.from) in
    let k_is : p + k - p ≡ k = omega arith in
    let same = in_chunk its es i (p - e.before) k e there.within (omega (arith, le, ap (λ (x : Entry V). length (items_at its x)) is)) in
    ap (λ (x : Entry V). take k (drop (p - e.before) (items_at its x))) is ∙ sym same ∙ ap (λ (m : ℕ). take k (drop m (joined its es))) from
    ∙ ap (λ (m : ℕ). take m (drop p (joined its es))) (sym k_is)

drop_twice : (xs : List Item) (a b : ℕ) → drop b (drop a xs) ≡ drop (a + b) xs
drop_twice xs zero b = let z : 0 + b ≡ b = omega arith in rw z refl
drop_twice [] (suc a) b = none b ∙ sym (none (suc a + b))
  where
    none : (n : ℕ) → drop {A = Item} n [] ≡ []
    none zero = refl
    none (suc n) = refl
drop_twice (x ∷ xs) (suc a) b = let n : suc a + b ≡ suc (a + b) = omega arith in rw n (drop_twice xs a b)

pub piece_from : {V : Type 0} → (its : V → List Item) (top : ℕ) (es : List (Entry V)) (i p : ℕ) (e : Entry V) (result : List Item) → Tells its top 0 0 es → IsAt its es p i → e ≡ get_or es i e → p - e.before + length result ≤ length (items_at its e)
    → result ≡ slice_range (items_at its e) (p - e.before) (p - e.before + length result) → result ≡ slice_range (joined its es) p (p + length result)
piece_from {V} its top es i p e result tells there is le cut =
    let k_is : p - e.before + length result - (p - e.before) ≡ length result = omega arith in
    cut ∙ ap (λ (m : ℕ). take m (drop (p - e.before) (items_at its e))) k_is ∙ piece_at its top es i p (length result) e tells there is le

-- two pieces that lie side by side
pub pieces_join : (xs : List Item) (lo mid hi : ℕ) → lo ≤ mid → mid ≤ hi → slice_range xs lo mid ++ slice_range xs mid hi ≡ slice_range xs lo hi
pieces_join xs lo mid hi low high =
    let n : hi - lo ≡ (mid - lo) + (hi - mid) = omega arith in
    let m : lo + (mid - lo) ≡ mid = omega arith in
    sym (ap (λ (k : ℕ). take k (drop lo xs)) n ∙ take-add (mid - lo) (hi - mid) (drop lo xs)
    ∙ ap (λ (ys : List Item). slice_range xs lo mid ++ take (hi - mid) ys) (drop_twice xs lo (mid - lo) ∙ ap (λ (k : ℕ). drop k xs) m))

pub ids_join : (xs : List Item) (lo mid hi : ℕ) → lo ≤ mid → mid ≤ hi → ids_of (slice_range xs lo mid) ++ ids_of (slice_range xs mid hi) ≡ ids_of (slice_range xs lo hi)
ids_join xs lo mid hi low high = sym (map-append (λ (k : Item). k.id) (slice_range xs lo mid) (slice_range xs mid hi)) ∙ ap ids_of (pieces_join xs lo mid hi low high)

-- the sum before the end less the sum before the start
pub sum_less : (xs : List Item) (lo hi high low : ℕ) → lo ≤ hi → high ≡ sum_at (take hi xs) → low ≡ sum_at (take lo xs) → (high + (2 ^ 256 - low)) % 2 ^ 256 ≡ sum_at (slice_range xs lo hi)
sum_less xs lo hi high low le h l =
    let n : lo + (hi - lo) ≡ hi = omega arith in
    let all : take hi xs ≡ take lo xs ++ slice_range xs lo hi = ap (λ (k : ℕ). take k xs) (sym n) ∙ take-add lo (hi - lo) xs in
    let s = ap sum_at all ∙ sum_append (take lo xs) (slice_range xs lo hi) in
    omega (arith, h, l, s, sum_small (take lo xs), sum_small (slice_range xs lo hi))

-- the sum before the start and that of the piece
pub sum_with : (xs : List Item) (lo hi low piece : ℕ) → lo ≤ hi → low ≡ sum_at (take lo xs) → piece ≡ sum_at (slice_range xs lo hi) → (low + piece) % 2 ^ 256 ≡ sum_at (take hi xs)
sum_with xs lo hi low piece le l p =
    let n : lo + (hi - lo) ≡ hi = omega arith in
    let all : take hi xs ≡ take lo xs ++ slice_range xs lo hi = ap (λ (k : ℕ). take k xs) (sym n) ∙ take-add lo (hi - lo) xs in
    let s = ap sum_at all ∙ sum_append (take lo xs) (slice_range xs lo hi) in
    omega (arith, l, p, s)
