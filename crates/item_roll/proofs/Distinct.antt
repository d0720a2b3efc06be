-- Items that stand twice, in a list and in its permutations.
use Rattle.std.proofs.Common.{◌≡◌, ℕ, suc, ◌+◌, ◌-◌, ◌<◌, ◌≤◌, ◌⊎◌, inl, inr, Bool, true, false, eqb, ltb, List, [], ◌∷◌, length, get_or, add-one, sym, ap, subst, ◌∙◌, arith}
use Rattle.std.specs.Prelude.{All, IsPermutation}
use Rattle.std.specs.List.{IsDistinct, AllByRecursion}
use Rattle.std.specs.List.Sorted.{IsNonDecreasingBy}
use Rattle.std.proofs.lemmas.Bool.{cases_lt, cases_eq, ltb-true, ltb-false, eq-eqb, ne_eqb}
use Rattle.std.proofs.lemmas.List.Elements.{All-head, All-tail, All-cons, All-nil}
use Rattle.std.proofs.lemmas.List.Sorted.{IsPermutation-sym, All-permutation, length_permutation}
use Rattle.std.proofs.lemmas.Map.Keys.{IsDistinct-IsPermutation, IsDistinct-cons, apart_from_distinct}
use Rattle.item_key.specs.declared.Item.{Item}
use Rattle.item_key.specs.Keys.{place, IsKey, item_of}
use Rattle.item_key.specs.Laws.{OnePlace}
use Rattle.item_roll.specs.Parts.{Ascending, IsRoll}
use Rattle.item_roll.specs.Repeats.{HasRepeat}
use Rattle.item_roll.proofs.Truths.{order_at}
use Rattle.item_roll.proofs.Lists.{at_any}

-- ---- whether an item stands twice

abbrev pub same_place : Item → Item → Bool
same_place a b = eqb (place a) (place b)

flips : (a b : Item) → same_place a b ≡ same_place b a
flips a b = elim (cases_eq (place a) (place b)) [
  | inl e ↦ eq-eqb (place a) (place b) e ∙ sym (eq-eqb (place b) (place a) (sym e))
  | inr ne ↦ ne_eqb (place a) (place b) ne ∙ sym (ne_eqb (place b) (place a) (λ e. ne (sym e)))
]

-- an item again among those after it, or none
search_for : (x : Item) (xs : List Item) → ((j : ℕ) × (j < length xs) × (place (get_or xs j x) ≡ place x)) ⊎ AllByRecursion (λ y. same_place x y ≡ false) xs
search_for x [] = inr tt
search_for x (y ∷ ys) = elim (cases_eq (place x) (place y)) [
  | inl e ↦ inl (0, omega arith, sym e)
  | inr ne ↦ elim (search_for x ys) [
    | inl found ↦ inl (suc found.0, omega (arith, found.1), found.2)
    | inr none ↦ inr (ne_eqb (place x) (place y) ne, none)
  ]
]

pub twice : (items : List Item) → OnePlace → All IsKey items → HasRepeat items ⊎ IsDistinct same_place items
unfolding IsDistinct
twice [] one keys = inr tt
twice (x ∷ xs) one keys = elim (search_for x xs) [
  | inl found ↦ inl (record {
    first = 0;
    second = suc found.0;
    apart = omega arith;
    within = omega (arith, found.1);
    same = λ d. one x (get_or xs found.0 x) (All-head IsKey x xs keys).id (All-tail IsKey x xs keys found.0 x found.1).id (sym found.2) ∙ at_any xs found.0 x d found.1;
  })
  | inr none ↦ elim (twice xs one (All-tail IsKey x xs keys)) [
    | inl again ↦ inl (record {
      first = suc again.first;
      second = suc again.second;
      apart = omega (arith, again.apart);
      within = omega (arith, again.within);
      same = λ d. again.same d;
    })
    | inr distinct ↦ inr (IsDistinct-cons same_place x xs none distinct)
  ]
]

-- not both
pub not_twice : (items : List Item) → IsDistinct same_place items → HasRepeat items → ⊥
not_twice items distinct again =
    let d = get_or items 0 (item_of 0 []) in
    let apart = apart_from_distinct same_place items again.first again.second (item_of 0 []) distinct again.apart again.within in
    let same = eq-eqb _ _ (ap place (again.same (item_of 0 []))) in
    cc

-- what stands twice does so in any order
pub twice_permuted : (xs ys : List Item) → OnePlace → All IsKey ys → IsPermutation xs ys → HasRepeat xs → HasRepeat ys
twice_permuted xs ys one keys moved again = elim (twice ys one keys) [
  | inl found ↦ found
  | inr distinct ↦ absurd (not_twice xs (IsDistinct-IsPermutation same_place flips ys xs (IsPermutation-sym xs ys moved) distinct) again)
]

-- ---- items in order

pub none_twice : (items : List Item) → Ascending items → HasRepeat items → ⊥
none_twice items up again =
    let less = order_at items again.first again.second (item_of 0 []) up again.apart again.within in
    let same = ap place (again.same (item_of 0 [])) in
    omega (arith, less, same)

-- each before the next
pub ascending_from : (xs : List Item) → ((k : ℕ) (d : Item) → k + 1 < length xs → place (get_or xs k d) < place (get_or xs (k + 1) d)) → Ascending xs
ascending_from [] step = tt
ascending_from (x ∷ []) step = (All-nil (λ y. place x < place y), tt)
ascending_from (x ∷ y ∷ ys) step =
    let first : place x < place y = step 0 x (omega arith) in
    let rest = ascending_from (y ∷ ys) (λ k d lt. rw (add-one k) (rw (add-one (suc k)) at (step (suc k) d (omega arith)))) in
    (All-cons (λ z. place x < place z) y ys first (λ k d lt. omega (arith, first, rest.0 k d lt)), rest)

-- two neighbours at one place
pub repeat_at : (items : List Item) (i : ℕ) → OnePlace → All IsKey items → IsNonDecreasingBy place items → 1 ≤ i → i < length items
    → ltb (place (get_or items (i - 1) (item_of 0 []))) (place (get_or items i (item_of 0 []))) ≡ false → HasRepeat items
repeat_at items i one keys rise pos lt not_below =
    let e = item_of 0 [] in
    let before : i - 1 < length items = omega arith in
    let up = rise (i - 1) i (item_of 0 []) (omega arith) lt in
    let same_place_is : place (get_or items (i - 1) (item_of 0 [])) ≡ place (get_or items i (item_of 0 [])) = omega (arith, up, ltb-false _ _ not_below) in
    let same_item = one (get_or items (i - 1) (item_of 0 [])) (get_or items i (item_of 0 [])) (keys (i - 1) (item_of 0 []) before).id (keys i (item_of 0 []) lt).id same_place_is in
    record {
      first = i - 1;
      second = i;
      apart = omega arith;
      within = lt;
      same = λ d. at_any items (i - 1) d (item_of 0 []) before ∙ same_item ∙ at_any items i (item_of 0 []) d lt;
    }

-- one more step up
pub step_more : (items : List Item) (i : ℕ) → ((k : ℕ) (d : Item) → k + 1 < i → place (get_or items k d) < place (get_or items (k + 1) d)) → 1 ≤ i → i < length items
    → ltb (place (get_or items (i - 1) (item_of 0 []))) (place (get_or items i (item_of 0 []))) ≡ true → (k : ℕ) (d : Item) → k + 1 < i + 1 → place (get_or items k d) < place (get_or items (k + 1) d)
step_more items i steps pos lt below k d l = elim (cases_lt (k + 1) i) [
  | inl before ↦ steps k d before
  | inr ge ↦
      let next : k + 1 ≡ i = omega arith in
      let here : k ≡ i - 1 = omega arith in
      let before : i - 1 < length items = omega arith in
      let a = ap place (at_any items (i - 1) d (item_of 0 []) before) in
      let b = ap place (at_any items i d (item_of 0 []) lt) in
      rw (next, here) (omega (arith, a, b, ltb-true _ _ below))
]

-- one more key
pub keys_more : (items : List Item) (i : ℕ) → ((k : ℕ) (d : Item) → k < i → IsKey (get_or items k d)) → i < length items → IsKey (get_or items i (item_of 0 [])) → (k : ℕ) (d : Item) → k < i + 1 → IsKey (get_or items k d)
keys_more items i keys lt key k d l = elim (cases_lt k i) [
  | inl before ↦ keys k d before
  | inr ge ↦
      let here : k ≡ i = omega arith in
      rw here (subst IsKey (at_any items i (item_of 0 []) d lt) key)
]

-- ---- a list that was sorted

pub sorted_roll : (items sorted list : List Item) → All IsKey items → IsPermutation items sorted → list ≡ sorted → Ascending list → IsRoll sorted
sorted_roll items sorted list keys moved same up = record { keys = All-permutation IsKey items sorted moved keys; ascending = subst Ascending same up }

pub never_twice : (items sorted : List Item) → OnePlace → IsRoll sorted → IsPermutation items sorted → HasRepeat items → ⊥
never_twice items sorted one roll moved again = none_twice sorted roll.ascending (twice_permuted items sorted one roll.keys moved again)

pub sorted_len : (items sorted list : List Item) (len n : ℕ) → IsPermutation items sorted → list ≡ sorted → length list ≡ len → n ≡ len → n ≡ length items
sorted_len items sorted list len n moved same e f = f ∙ sym e ∙ ap (λ (xs : List Item). length xs) same ∙ length_permutation items sorted moved
