-- An item that is put into a list in order.
use Rattle.std.proofs.Common.{◌≡◌, ℕ, zero, suc, ◌-◌, ◌<◌, ◌≤◌, inl, inr, true, false, ltb, List, [], ◌∷◌, ◌++◌, length, get_or, take, drop, sym, ap, ◌∙◌, arith}
use Rattle.std.specs.Prelude.{Contains}
use Rattle.std.specs.List.{insert}
use Rattle.std.proofs.lemmas.Bool.{cases_lt, ltb-true, ltb-false}
use Rattle.std.proofs.lemmas.List.{take_all, length-drop}
use Rattle.std.proofs.lemmas.List.Elements.{All-cons, All-nil, All-append, All-take, All-drop}
use Rattle.item_key.specs.declared.Item.{Item}
use Rattle.item_key.specs.Keys.{place, least, infinity, IsKey, IsId}
use Rattle.item_key.specs.Laws.{OnePlace}
use Rattle.neg_codec.proofs.Stretches.{key_below}
use Rattle.item_roll.specs.Parts.{Ascending, IsRoll, part, count_below}
use Rattle.item_roll.specs.Gaps.{IsGap}
use Rattle.item_roll.proofs.Cuts.{part_is}
use Rattle.item_roll.proofs.Lists.{at_any}
use Rattle.item_roll.proofs.Places.{low_item, high_item, count_at, rises}

-- where the items below a key end, none is above it
not_above : (items : List Item) (at : ℕ) (k d : Item) → IsRoll items → at ≡ count_below items k → at < length items → place k ≤ place (get_or items at d)
not_above items at k d roll e lt = elim (cases_lt (place (get_or items at d)) (place k)) [
  | inl low ↦ absurd (omega (arith, low_item items at k d roll.ascending lt low, e))
  | inr le ↦ le
]

pub stands_there : (items : List Item) (at : ℕ) (k d : Item) → OnePlace → IsRoll items → IsId k.id → at ≡ count_below items k → at < length items → ltb (place k) (place (get_or items at d)) ≡ false → Contains items k
stands_there items at k d one roll id e lt below =
    let le = not_above items at k d roll e lt in
    let same : place (get_or items at d) ≡ place k = omega (arith, le, ltb-false _ _ below) in
    (at, lt, at_any items at k d lt ∙ one (get_or items at d) k (roll.keys at d lt).id id same)

all_below : (items : List Item) (at : ℕ) (k : Item) → IsRoll items → at ≡ count_below items k → at ≤ length items → (i : ℕ) (d : Item) → i < at → place (get_or items i d) < place k
all_below items at k roll e le i d lt = elim (cases_lt (place (get_or items i d)) (place k)) [
  | inl low ↦ low
  | inr high ↦ absurd (omega (arith, high_item items i k d roll.ascending (omega arith) high, e))
]

pub gap_at_end : (items : List Item) (at : ℕ) (k : Item) → IsRoll items → at ≡ count_below items k → at ≡ length items → IsGap items k at
gap_at_end items at k roll e end = record {
  within = omega arith;
  below = all_below items at k roll e (omega arith);
  above = λ i d le lt. absurd (omega arith);
}

pub gap_before : (items : List Item) (at : ℕ) (k d : Item) → IsRoll items → at ≡ count_below items k → at < length items → ltb (place k) (place (get_or items at d)) ≡ true → IsGap items k at
gap_before items at k d roll e lt below = record {
  within = omega arith;
  below = all_below items at k roll e (omega arith);
  above = λ i f le l.
      let up = rises items roll.ascending at i f le l in
      let same = ap place (at_any items at f d lt) in
      omega (arith, up, same, ltb-true _ _ below);
}

pub absent : (items : List Item) (k : Item) (at : ℕ) → IsGap items k at → Contains items k → ⊥
absent items k at gap found =
    let same = ap place found.2 in
    elim (cases_lt found.0 at) [
      | inl before ↦ omega (arith, gap.below found.0 k before, same)
      | inr after ↦ omega (arith, gap.above found.0 k after found.1, same)
    ]

inserted_up : (items : List Item) (at : ℕ) (k : Item) → Ascending items → ((i : ℕ) (d : Item) → i < at → i < length items → place (get_or items i d) < place k)
    → ((i : ℕ) (d : Item) → at ≤ i → i < length items → place k < place (get_or items i d)) → Ascending (insert items at k)
inserted_up [] zero k up low high = (All-nil (λ y. place k < place y), tt)
inserted_up [] (suc at) k up low high = (All-nil (λ y. place k < place y), tt)
inserted_up (x ∷ xs) zero k up low high = (λ i d lt. high i d (omega arith) lt, up)
inserted_up (x ∷ xs) (suc at) k up low high = (
  All-append (λ y. place x < place y) (take at xs) (k ∷ drop at xs) (All-take (λ y. place x < place y) at xs up.0)
      (All-cons (λ y. place x < place y) k (drop at xs) (low 0 k (omega arith) (omega arith)) (All-drop (λ y. place x < place y) at xs up.0)),
  inserted_up xs at k up.1 (λ i d l lt. low (suc i) d (omega arith) (omega arith)) (λ i d le lt. high (suc i) d (omega arith) (omega arith)),
)

pub inserted_roll : (items : List Item) (at : ℕ) (k : Item) → IsRoll items → IsKey k → IsGap items k at → IsRoll (insert items at k)
inserted_roll items at k roll key gap = record {
  keys = All-append IsKey (take at items) (k ∷ drop at items) (All-take IsKey at items roll.keys) (All-cons IsKey k (drop at items) key (All-drop IsKey at items roll.keys));
  ascending = inserted_up items at k roll.ascending (λ i d l lt. gap.below i d l) gap.above;
}

least_below : (k : Item) → place least ≤ place k
unfolding place
least_below k = omega arith

none_least : (items : List Item) → IsRoll items → 0 ≡ count_below items least
none_least items roll = count_at items least 0 roll.ascending (omega arith) (λ i d lt l. absurd (omega arith)) (λ i d le lt. least_below (get_or items i d))

all_counted : (items : List Item) → IsRoll items → length items ≡ count_below items infinity
all_counted items roll = count_at items infinity (length items) roll.ascending (omega arith) (λ i d lt l. key_below (get_or items i d) (roll.keys i d l)) (λ i d le lt. absurd (omega arith))

-- the items below it, then the item, then those above
pub inserted_is : (items : List Item) (at : ℕ) (k : Item) → IsRoll items → IsKey k → IsGap items k at → insert items at k ≡ part items least k ++ k ∷ part items k infinity
inserted_is items at k roll key gap =
    let here = count_at items k at roll.ascending gap.within (λ i d lt l. gap.below i d lt) (λ i d le lt. let less = gap.above i d le lt in omega (arith, less)) in
    let none = none_least items roll in
    let all = all_counted items roll in
    let inside = key_below k key in
    let front : part items least k ≡ take at items = part_is items least k roll.ascending (least_below k)
    ∙ ap (λ (n : ℕ). take (count_below items k - n) (drop n items)) (sym none) ∙ ap (λ (n : ℕ). take n items) (let e : count_below items k - 0 ≡ at = omega (arith, here) in e) in
    let le : length (drop at items) ≤ count_below items infinity - at = omega (arith, all, length-drop at items) in
    let back : part items k infinity ≡ drop at items = part_is items k infinity roll.ascending (omega (arith, inside))
    ∙ ap (λ (n : ℕ). take (count_below items infinity - n) (drop n items)) (sym here) ∙ take_all (count_below items infinity - at) (drop at items) le in
    ap (λ (xs : List Item). xs ++ k ∷ drop at items) (sym front) ∙ ap (λ (xs : List Item). part items least k ++ k ∷ xs) (sym back)
