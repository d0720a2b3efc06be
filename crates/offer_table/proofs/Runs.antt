-- Offers in the order of their sets' numbers, cut into runs of equal sets.
use Rattle.std.proofs.Common.{◌≡◌, ◌≢◌, ℕ, ◌+◌, ◌<◌, ◌≤◌, ◌==◌, Bool, true, false, cond, List, [], ◌∷◌, ◌++◌, length, get_or, take, drop, map, refl, sym, ap, ◌∙◌, subst, arith, inl, inr, append-nil, take-append-drop}
use Rattle.std.specs.Prelude.{Some, None, slice_get}
use Rattle.std.specs.declared.cmp.Ordering.TheVariants.{Less}
use Rattle.std.specs.Ordering.{nat_cmp}
use Rattle.std.specs.List.{All, filter}
use Rattle.std.specs.List.Sorted.{IsStrictlySortedBy, IsNonDecreasingBy}
use Rattle.std.proofs.lemmas.Bool.{cases_lt, eq-eqb, eqb-true}
use Rattle.std.proofs.lemmas.List.{map-append, get_or-drop, length-drop, length-map, length-take-le, get_or_default}
use Rattle.std.proofs.lemmas.List.Elements.{All-head, All-tail, All-cons, All-nil, All-drop, All-push, filter-append}
use Rattle.std.proofs.lemmas.List.Sorted.{IsNonDecreasingBy-drop}
use Rattle.item_key.specs.declared.Id.{Id}
use Rattle.sharing.specs.Offers.{AreRelays, Ascend, id_cmp}
use Rattle.sharing.proofs.Orders.{head_sorted, tail_sorted, sorted_push, less_from}
use Rattle.offer_table.specs.Relays.{bits_of}
use Rattle.offer_table.specs.Groups.{ids_numbered}
use Rattle.offer_table.specs.Rows.{ids_at, row_cmp, AreRows}
use Rattle.offer_table.proofs.Cuts.{sorted_cons}
use Rattle.offer_table.proofs.Rows.{Rows, number_of, AllBelow, ids_at_cut, none_between}

abbrev pub Offers : Type 0
Offers = List (Id × List ℕ)

abbrev pub id_of : Id × List ℕ → Id
id_of o = o.0

abbrev pub set_number : Id × List ℕ → ℕ
set_number o = bits_of o.1

-- the ids of a number, in two parts
pub ids_join : (os ps : Offers) (n : ℕ) → ids_numbered n (os ++ ps) ≡ ids_numbered n os ++ ids_numbered n ps
ids_join os ps n =
    ap (map (λ o. o.0)) (filter-append (λ (o : Id × List ℕ). n == bits_of o.1) os ps)
    ∙ map-append (λ (o : Id × List ℕ). o.0) (filter (λ o. n == bits_of o.1) os) (filter (λ o. n == bits_of o.1) ps)

-- the ids of offers whose sets have one number
pub ids_same : (xs : Offers) (w n : ℕ) → All (λ o. set_number o ≡ w) xs → ids_numbered n xs ≡ cond (n == w) (map id_of xs) []
ids_same [] w n h = none (n == w)
  where
    none : (b : Bool) → [] ≡ cond {A = List Id} b [] []
    none true = refl
    none false = refl
ids_same (x ∷ xs) w n h =
    ap (λ k. map id_of (cond (n == k) (x ∷ filter (λ o. n == set_number o) xs) (filter (λ o. n == set_number o) xs))) (All-head (λ o. set_number o ≡ w) x xs h)
    ∙ one (n == w) (ids_same xs w n (All-tail (λ o. set_number o ≡ w) x xs h))
  where
    one : (b : Bool) → map id_of (filter (λ o. n == set_number o) xs) ≡ cond b (map id_of xs) [] → map id_of (cond b (x ∷ filter (λ o. n == set_number o) xs) (filter (λ o. n == set_number o) xs)) ≡ cond b (map id_of (x ∷ xs)) []
    one true e = ap (λ is. x.0 ∷ is) e
    one false e = e

-- ids in order, in two parts
all_front : (P : Id → Type 0) (xs ys : List Id) → All P (xs ++ ys) → All P xs
all_front P [] ys h = All-nil P
all_front P (x ∷ xs) ys h = All-cons P x xs (All-head P x (xs ++ ys) h) (all_front P xs ys (All-tail P x (xs ++ ys) h))

pub ascend_front : (xs ys : List Id) → Ascend (xs ++ ys) → Ascend xs
unfolding IsStrictlySortedBy
ascend_front [] ys h = tt
ascend_front (x ∷ xs) ys h = sorted_cons id_cmp x xs (all_front (λ y. id_cmp x y ≡ Less) xs ys (head_sorted id_cmp x (xs ++ ys) h)) (ascend_front xs ys (tail_sorted id_cmp x (xs ++ ys) h))

pub ascend_back : (xs ys : List Id) → Ascend (xs ++ ys) → Ascend ys
ascend_back [] ys h = h
ascend_back (x ∷ xs) ys h = ascend_back xs ys (tail_sorted id_cmp x (xs ++ ys) h)

-- the first of some offers
pub first_of : (xs : Offers) (o : Id × List ℕ) → Some o ≡ slice_get xs 0 → (0 < length xs) × (get_or xs 0 o ≡ o)
first_of [] o e = absurd (let no : Some o ≡ None = e in cc)
first_of (x ∷ xs) o e = (omega arith, let is : Some o ≡ Some x = e in cc)

-- offers in order, cut behind the first run: the run's number is w
module _ (rest : Offers) (k w : ℕ) (first : Id × List ℕ) (some : 0 < length rest) (is : get_or rest 0 first ≡ first) (has : set_number first ≡ w) (order : IsNonDecreasingBy set_number rest)
    (within : k ≤ length rest) (same : All (λ o. set_number o ≡ w) (take k rest)) (other : k < length rest → (d : Id × List ℕ) → set_number (get_or rest k d) ≢ w) where
  -- the run isn't empty
  pub run_some : 0 < k
  run_some =
      elim (cases_lt 0 k) [
        | inl lt ↦ lt
        | inr ge ↦ (let none : k ≡ 0 = omega arith in absurd (other (omega arith) first (ap (λ i. set_number (get_or rest i first)) none ∙ ap set_number is ∙ has)))
      ]

  -- what stands behind it has greater numbers
  pub others_above : All (λ o. w < set_number o) (drop k rest)
  others_above i d lt =
      let inside : k + i < length rest = omega (arith, length-drop k rest) in
      let low : w ≤ set_number (get_or rest k d) = least (set_number (get_or rest 0 d)) (set_number (get_or rest k d)) (ap set_number (first_is d) ∙ has) (order 0 k d (omega arith) (omega arith)) in
      let high : set_number (get_or rest k d) ≤ set_number (get_or rest (k + i) d) = order k (k + i) d (omega arith) inside in
      let differ : set_number (get_or rest k d) ≢ w = other (omega arith) d in
      subst (λ o. w < set_number o) (sym (get_or-drop k rest i d)) (omega arith)
    where
      least : (a b : ℕ) → a ≡ w → a ≤ b → w ≤ b
      least a b e le = omega arith

      first_is : (d : Id × List ℕ) → get_or rest 0 d ≡ first
      first_is d = get_or_default rest 0 d first some ∙ is

  pub split_ids : (n : ℕ) → ids_numbered n rest ≡ cond (n == w) (map id_of (take k rest)) [] ++ ids_numbered n (drop k rest)
  split_ids n = ap (ids_numbered n) (sym (take-append-drop k rest)) ∙ ids_join (take k rest) (drop k rest) n ∙ ap (λ is. is ++ ids_numbered n (drop k rest)) (ids_same (take k rest) w n same)

  -- the run's ids are in order
  pub run_ascends : ((n : ℕ) → Ascend (ids_numbered n rest)) → Ascend (map id_of (take k rest))
  run_ascends h = ascend_front (map id_of (take k rest)) (ids_numbered w (drop k rest)) (subst Ascend (split_ids w ∙ ap (λ b. cond b (map id_of (take k rest)) [] ++ ids_numbered w (drop k rest)) (eq-eqb w w refl)) (h w))

  pub others_ascend : ((n : ℕ) → Ascend (ids_numbered n rest)) → (n : ℕ) → Ascend (ids_numbered n (drop k rest))
  others_ascend h n = ascend_back (cond (n == w) (map id_of (take k rest)) []) (ids_numbered n (drop k rest)) (subst Ascend (split_ids n) (h n))

  -- a row more
  module _ (rows : Rows) (g : List ℕ × List Id) (number : number_of g ≡ w) (ids : g.1 ≡ map id_of (take k rest)) (below : All (λ g. All (λ o. number_of g < set_number o) rest) rows) where
    rows_below : AllBelow rows (number_of g)
    rows_below i d lt =
        let here : number_of (get_or rows i d) < set_number (get_or rest 0 first) = below i d lt 0 first some in
        less_from (number_of (get_or rows i d)) (number_of g) (omega (arith, here, ap set_number is, has, number))

    pub ids_step : (n : ℕ) → ids_at (rows ++ g ∷ []) n ++ ids_numbered n (drop k rest) ≡ ids_at rows n ++ ids_numbered n rest
    ids_step n =
        ap (λ is. is ++ ids_numbered n (drop k rest)) (ids_at_cut rows [] g n rows_below ∙ ap (λ (xs : Rows). cond (n == number_of g) g.1 (ids_at xs n)) (append-nil rows) ∙ ap (λ is. cond (n == number_of g) is (ids_at rows n)) ids)
        ∙ ap (λ m. cond (n == m) (map id_of (take k rest)) (ids_at rows n) ++ ids_numbered n (drop k rest)) number
        ∙ parted (n == w) (ids_at rows n) (map id_of (take k rest)) (ids_numbered n (drop k rest)) (λ t. ap (ids_at rows) (eqb-true n w t ∙ sym number) ∙ ap (λ (xs : Rows). ids_at xs (number_of g)) (sym (append-nil rows)) ∙ none_between rows [] (number_of g) rows_below (All-nil (λ v. nat_cmp (number_of g) (number_of v) ≡ Less)))
        ∙ ap (λ is. ids_at rows n ++ is) (sym (split_ids n))
      where
        parted : (b : Bool) (was run left : List Id) → (b ≡ true → was ≡ []) → cond b run was ++ left ≡ was ++ (cond b run [] ++ left)
        parted true was run left h = ap (λ is. is ++ (run ++ left)) (sym (h refl))
        parted false was run left h = refl

    pub rows_step : AreRows rows → AreRelays g.0 → AreRows (rows ++ g ∷ [])
    rows_step ok relays = record {
      ordered = sorted_push row_cmp rows g ok.ordered rows_below;
      relays = All-push (λ g. AreRelays g.0) rows g ok.relays relays;
      some = All-push (λ g. 0 < length g.1) rows g ok.some (omega (arith, run_some, ap length ids, length-map (take k rest) id_of, length-take-le k rest within));
    }

    pub below_step : All (λ g. All (λ o. number_of g < set_number o) (drop k rest)) (rows ++ g ∷ [])
    below_step =
        All-push (λ g. All (λ o. number_of g < set_number o) (drop k rest)) rows g (λ i d lt. All-drop (λ o. number_of (get_or rows i d) < set_number o) k rest (below i d lt))
        (subst (λ m. All (λ o. m < set_number o) (drop k rest)) (sym number) others_above)

  pub order_step : IsNonDecreasingBy set_number (drop k rest)
  order_step = IsNonDecreasingBy-drop set_number k rest order
