-- How many items of a list in order stand below a bound.
use Rattle.std.proofs.Common.{◌≡◌, ℕ, zero, suc, ◌<◌, ◌≤◌, ◌⊎◌, inl, inr, ltb, List, [], ◌∷◌, length, get_or, refl, ap, arith}
use Rattle.std.specs.Prelude.{All, filter}
use Rattle.std.specs.List.Sorted.{IsNonDecreasingBy}
use Rattle.std.proofs.lemmas.Bool.{cases_lt, lt-ltb, le-ltb}
use Rattle.std.proofs.lemmas.List.Elements.{All-head, All-tail}
use Rattle.item_key.specs.declared.Item.{Item}
use Rattle.item_key.specs.Keys.{place}
use Rattle.item_roll.specs.Parts.{Ascending, count_below}

none_counted : (b : Item) (xs : List Item) → All (λ y. place b ≤ place y) xs → filter (λ k. ltb (place k) (place b)) xs ≡ []
none_counted b [] h = refl
none_counted b (x ∷ xs) h = rw (le-ltb (place x) (place b) (All-head (λ y. place b ≤ place y) x xs h)) (none_counted b xs (All-tail (λ y. place b ≤ place y) x xs h))

-- in order, an item below the bound is counted
pub low_item : (xs : List Item) (i : ℕ) (b d : Item) → Ascending xs → i < length xs → place (get_or xs i d) < place b → i < count_below xs b
unfolding count_below
low_item [] i b d up lt low = absurd (omega arith)
low_item (x ∷ xs) zero b d up lt low = rw (lt-ltb (place x) (place b) low) (omega arith)
low_item (x ∷ xs) (suc i) b d up lt low =
    let before : place x < place (get_or xs i d) = up.0 i d (omega arith) in
    let first : place x < place b = omega arith in
    rw (lt-ltb (place x) (place b) first) (omega (arith, low_item xs i b d up.1 (omega arith) low))

-- and one that isn't below it is not
pub high_item : (xs : List Item) (i : ℕ) (b d : Item) → Ascending xs → i < length xs → place b ≤ place (get_or xs i d) → count_below xs b ≤ i
unfolding count_below
high_item [] i b d up lt high = absurd (omega arith)
high_item (x ∷ xs) zero b d up lt high =
    let later : All (λ y. place b ≤ place y) xs = λ k e l. omega (arith, up.0 k e l) in
    rw (le-ltb (place x) (place b) high) (omega (arith, ap length (none_counted b xs later)))
high_item (x ∷ xs) (suc i) b d up lt high = go (cases_lt (place x) (place b)) (high_item xs i b d up.1 (omega arith) high)
  where
    go : (place x < place b) ⊎ (place b ≤ place x) → length (filter (λ k. ltb (place k) (place b)) xs) ≤ i → length (filter (λ k. ltb (place k) (place b)) (x ∷ xs)) ≤ suc i
    go (inl low) ih = rw (lt-ltb (place x) (place b) low) (omega (arith, ih))
    go (inr not_low) ih = rw (le-ltb (place x) (place b) not_low) (omega (arith, ih))

pub count_most : (xs : List Item) (b : Item) → count_below xs b ≤ length xs
unfolding count_below
count_most [] b = omega arith
count_most (x ∷ xs) b = go (cases_lt (place x) (place b)) (count_most xs b)
  where
    go : (place x < place b) ⊎ (place b ≤ place x) → length (filter (λ k. ltb (place k) (place b)) xs) ≤ length xs → length (filter (λ k. ltb (place k) (place b)) (x ∷ xs)) ≤ suc (length xs)
    go (inl low) ih = rw (lt-ltb (place x) (place b) low) (omega (arith, ih))
    go (inr not_low) ih = rw (le-ltb (place x) (place b) not_low) (omega (arith, ih))

-- the places of a list in order rise
pub rises : (xs : List Item) → Ascending xs → IsNonDecreasingBy place xs
rises [] up i j d le lt = absurd (omega arith)
rises (x ∷ xs) up zero zero d le lt = omega arith
rises (x ∷ xs) up zero (suc j) d le lt = omega (arith, up.0 j d (omega arith))
rises (x ∷ xs) up (suc i) zero d le lt = absurd (omega arith)
rises (x ∷ xs) up (suc i) (suc j) d le lt = rises xs up.1 i j d (omega arith) (omega arith)

-- where the items below a bound end, that many are below it
pub count_at : (xs : List Item) (b : Item) (i : ℕ) → Ascending xs → i ≤ length xs → ((k : ℕ) (d : Item) → k < i → k < length xs → place (get_or xs k d) < place b)
    → ((k : ℕ) (d : Item) → i ≤ k → k < length xs → place b ≤ place (get_or xs k d)) → i ≡ count_below xs b
count_at xs b i up le low high = omega (arith, least i refl, most)
  where
    least : (m : ℕ) → m ≡ i → m ≤ count_below xs b
    least zero e = omega arith
    least (suc m) e = omega (arith, low_item xs m b b up (omega arith) (low m b (omega arith) (omega arith)))

    most : count_below xs b ≤ i
    most = elim (cases_lt i (length xs)) [
      | inl lt ↦ high_item xs i b b up lt (high i b (omega arith) lt)
      | inr ge ↦ omega (arith, count_most xs b)
    ]

-- the higher the bound, the more items stand below it
pub count_rises : (xs : List Item) (a b : Item) → place a ≤ place b → count_below xs a ≤ count_below xs b
unfolding count_below
count_rises [] a b le = omega arith
count_rises (x ∷ xs) a b le = go (cases_lt (place x) (place a)) (cases_lt (place x) (place b)) (count_rises xs a b le)
  where
    go : (place x < place a) ⊎ (place a ≤ place x) → (place x < place b) ⊎ (place b ≤ place x)
        → length (filter (λ k. ltb (place k) (place a)) xs) ≤ length (filter (λ k. ltb (place k) (place b)) xs)
        → length (filter (λ k. ltb (place k) (place a)) (x ∷ xs)) ≤ length (filter (λ k. ltb (place k) (place b)) (x ∷ xs))
    go (inl la) (inl lb) ih = rw (lt-ltb (place x) (place a) la, lt-ltb (place x) (place b) lb) (omega (arith, ih))
    go (inl la) (inr lb) ih = absurd (omega arith)
    go (inr la) (inl lb) ih = rw (le-ltb (place x) (place a) la, lt-ltb (place x) (place b) lb) (omega (arith, ih))
    go (inr la) (inr lb) ih = rw (le-ltb (place x) (place a) la, le-ltb (place x) (place b) lb) (omega (arith, ih))
