-- Lists in order.
use Rattle.std.proofs.Common.{◌≡◌, ℕ, ◌<◌, ◌==◌, true, false, List, [], ◌∷◌, ◌++◌, map, ◌||◌, inl, inr, refl, sym, ap, ◌∙◌, subst, arith}
use Rattle.std.specs.declared.cmp.Ordering.{Ordering}
use Rattle.std.specs.declared.cmp.Ordering.TheVariants.{Less, Equal, Greater}
use Rattle.std.specs.Ordering.{nat_cmp, is_eq, ordering_reverse, ordering_then}
use Rattle.std.specs.Cmp.Lexicographic.{slice_cmp}
use Rattle.std.specs.Cmp.{IsTotalOrder}
use Rattle.std.specs.List.{All}
use Rattle.std.specs.List.Sorted.{IsStrictlySortedBy}
use Rattle.std.proofs.lemmas.Bool.{ne_eqb, eq-eqb, or_from, or_left, cases_lt, cases_eq, false≢true, false_from_ne_true}
use Rattle.std.proofs.lemmas.Cmp.{ranked, nat_list_cmp_total, on_total, tied_itself}
use Rattle.std.proofs.lemmas.List.Elements.{All-from_recursion, recursion_from_All, All-push, All-tail, All-head, All-nil, All-cons, All-weaker}
use Rattle.item_key.specs.declared.Id.{Id}
use Rattle.sharing.specs.Sharing.{is_among}
use Rattle.sharing.specs.Offers.{id_cmp, is_id}
use Rattle.sharing.proofs.Counting.{NoneTwice}

-- ids are totally ordered
pub id_total : IsTotalOrder id_cmp
id_total = on_total (λ (i : Id). i.0) nat_list_cmp_total

module _ {K : Type 0} (c : K → K → Ordering) where
  -- one more, which each of the others comes before
  pub sorted_push : (xs : List K) (y : K) → IsStrictlySortedBy c xs → All (λ x. c x y ≡ Less) xs → IsStrictlySortedBy c (xs ++ y ∷ [])
  unfolding IsStrictlySortedBy
  sorted_push [] y h before = (tt, tt)
  sorted_push (x ∷ xs) y h before = (
    recursion_from_All (λ z. c x z ≡ Less) (xs ++ y ∷ []) (All-push (λ z. c x z ≡ Less) xs y (All-from_recursion (λ z. c x z ≡ Less) xs h.0) (All-head (λ z. c z y ≡ Less) x xs before)),
    sorted_push xs y h.1 (All-tail (λ z. c z y ≡ Less) x xs before),
  )

pub less_from : (a b : ℕ) → a < b → nat_cmp a b ≡ Less
less_from a b lt = grind arith

pub lt_from_less : (a b : ℕ) → nat_cmp a b ≡ Less → a < b
lt_from_less a b e = ranked a b Less (sym e)

-- none of those above x is x
pub absent_above : (x : ℕ) (xs : List ℕ) → All (λ y. nat_cmp x y ≡ Less) xs → is_among xs x ≡ false
absent_above x [] h = refl
absent_above x (y ∷ ys) h =
    let lt : x < y = lt_from_less x y (All-head (λ y. nat_cmp x y ≡ Less) y ys h) in
    or_from (x == y) (is_among ys x) (ne_eqb x y (λ e. absurd (omega arith))) (absent_above x ys (All-tail (λ y. nat_cmp x y ≡ Less) y ys h))

-- of relays in order none stands twice
pub once_sorted : (xs : List ℕ) → IsStrictlySortedBy nat_cmp xs → NoneTwice xs
unfolding IsStrictlySortedBy
once_sorted [] h = tt
once_sorted (x ∷ xs) h = (absent_above x xs (All-from_recursion (λ y. nat_cmp x y ≡ Less) xs h.0), once_sorted xs h.1)

pub head_sorted : {K : Type 0} (c : K → K → Ordering) (x : K) (xs : List K) → IsStrictlySortedBy c (x ∷ xs) → All (λ y. c x y ≡ Less) xs
unfolding IsStrictlySortedBy
head_sorted c x xs h = All-from_recursion (λ y. c x y ≡ Less) xs h.0

pub tail_sorted : {K : Type 0} (c : K → K → Ordering) (x : K) (xs : List K) → IsStrictlySortedBy c (x ∷ xs) → IsStrictlySortedBy c xs
unfolding IsStrictlySortedBy
tail_sorted c x xs h = h.1

pub among_head : (x : ℕ) (xs : List ℕ) → is_among (x ∷ xs) x ≡ true
among_head x xs = or_left (x == x) (is_among xs x) (eq-eqb x x refl)

-- what comes before the first is not there
absent_below : (r x : ℕ) (xs : List ℕ) → r < x → IsStrictlySortedBy nat_cmp (x ∷ xs) → is_among (x ∷ xs) r ≡ false
absent_below r x xs lt h =
    or_from (r == x) (is_among xs r) (ne_eqb r x (λ e. absurd (omega arith)))
    (absent_above r xs (All-weaker (λ y. nat_cmp x y ≡ Less) (λ y. nat_cmp r y ≡ Less) (λ y less. less_from r y (let more : x < y = lt_from_less x y less in omega arith)) xs (head_sorted nat_cmp x xs h)))

same_head : (x y : ℕ) (xs ys : List ℕ) → IsStrictlySortedBy nat_cmp (x ∷ xs) → IsStrictlySortedBy nat_cmp (y ∷ ys) → ((r : ℕ) → is_among (x ∷ xs) r ≡ is_among (y ∷ ys) r) → x ≡ y
same_head x y xs ys h g same =
    elim (cases_lt x y) [
      | inl lt ↦ absurd (false≢true (sym (absent_below x y ys lt g) ∙ sym (same x) ∙ among_head x xs))
      | inr ge ↦ elim (cases_lt y x) [
        | inl lt ↦ absurd (false≢true (sym (absent_below y x xs lt h) ∙ same y ∙ among_head y ys))
        | inr le ↦ omega arith
      ]
    ]

same_tail : (x : ℕ) (xs ys : List ℕ) → IsStrictlySortedBy nat_cmp (x ∷ xs) → IsStrictlySortedBy nat_cmp (x ∷ ys) → ((r : ℕ) → is_among (x ∷ xs) r ≡ is_among (x ∷ ys) r) → (r : ℕ) → is_among xs r ≡ is_among ys r
same_tail x xs ys h g same r =
    elim (cases_eq r x) [
      | inl e ↦ ap (is_among xs) e ∙ absent_above x xs (head_sorted nat_cmp x xs h) ∙ sym (ap (is_among ys) e ∙ absent_above x ys (head_sorted nat_cmp x ys g))
      | inr ne ↦ sym (ap (λ b. b || is_among xs r) (ne_eqb r x ne)) ∙ same r ∙ ap (λ b. b || is_among ys r) (ne_eqb r x ne)
    ]

-- numbers in order are determined by their members
pub same_sorted : (xs ys : List ℕ) → IsStrictlySortedBy nat_cmp xs → IsStrictlySortedBy nat_cmp ys → ((r : ℕ) → is_among xs r ≡ is_among ys r) → xs ≡ ys
same_sorted [] [] h g same = refl
same_sorted [] (y ∷ ys) h g same = absurd (false≢true (same y ∙ among_head y ys))
same_sorted (x ∷ xs) [] h g same = absurd (false≢true (sym (same x) ∙ among_head x xs))
same_sorted (x ∷ xs) (y ∷ ys) h g same =
    let e : x ≡ y = same_head x y xs ys h g same in
    let g' : IsStrictlySortedBy nat_cmp (x ∷ ys) = subst (λ z. IsStrictlySortedBy nat_cmp (z ∷ ys)) (sym e) g in
    let same' : (r : ℕ) → is_among (x ∷ xs) r ≡ is_among (x ∷ ys) r = λ r. same r ∙ ap (λ z. is_among (z ∷ ys) r) (sym e) in
    ap (λ zs. x ∷ zs) (same_sorted xs ys (tail_sorted nat_cmp x xs h) (tail_sorted nat_cmp x ys g') (same_tail x xs ys h g' same')) ∙ ap (λ z. z ∷ ys) e

-- equal ids
equal_then : (o p : Ordering) → ordering_then o p ≡ Equal → (o ≡ Equal) × (p ≡ Equal)
equal_then Less p h = absurd (cc)
equal_then Equal p h = (refl, h)
equal_then Greater p h = absurd (cc)

same_bytes : (xs ys : List ℕ) → slice_cmp nat_cmp xs ys ≡ Equal → xs ≡ ys
same_bytes [] [] h = refl
same_bytes [] (y ∷ ys) h = absurd (cc)
same_bytes (x ∷ xs) [] h = absurd (cc)
same_bytes (x ∷ xs) (y ∷ ys) h =
    let both : (nat_cmp x y ≡ Equal) × (slice_cmp nat_cmp xs ys ≡ Equal) = equal_then (nat_cmp x y) (slice_cmp nat_cmp xs ys) h in
    ap (λ z. z ∷ xs) (ranked x y Equal (sym both.0)) ∙ ap (λ zs. y ∷ zs) (same_bytes xs ys both.1)

pub is_equal : (o : Ordering) → is_eq o ≡ true → o ≡ Equal
is_equal Less h = absurd (false≢true h)
is_equal Equal h = refl
is_equal Greater h = absurd (false≢true h)

pub same_id : (i j : Id) → is_id i j ≡ true → i ≡ j
same_id i j h = let e : i.0 ≡ j.0 = same_bytes i.0 j.0 (is_equal (id_cmp i j) h) in ap (λ bytes. record { 0 = bytes }) e

pub id_itself : (i : Id) → is_id i i ≡ true
id_itself i = ap is_eq (tied_itself id_total i)

-- an id that comes before another is another
pub id_apart : (i j : Id) → id_cmp i j ≡ Less → is_id j i ≡ false
id_apart i j h = ap is_eq (id_total.antisymm j i ∙ ap ordering_reverse h)

pub id_flips : (i j : Id) → is_id i j ≡ false → is_id j i ≡ false
id_flips i j h = false_from_ne_true (is_id j i) (λ t. false≢true (sym h ∙ ap (λ k. is_id k j) (sym (same_id j i t)) ∙ id_itself j))

-- from a map of a list to the list
pub All-unmap : {X Y : Type 0} (P : X → Type 0) (f : Y → X) (ys : List Y) → All P (map f ys) → All (λ y. P (f y)) ys
All-unmap P f [] h = All-nil (λ y. P (f y))
All-unmap P f (y ∷ ys) h = All-cons (λ y. P (f y)) y ys (All-head P (f y) (map f ys) h) (All-unmap P f ys (All-tail P (f y) (map f ys) h))
