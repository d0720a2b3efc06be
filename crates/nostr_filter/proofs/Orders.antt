-- Things in order, each once: by a total order whose ties are equal, one list for each set.
use Rattle.std.proofs.Common.{◌≡◌, Bool, true, false, cond, ◌||◌, List, [], ◌∷◌, true≢false, refl, sym, ap, ap₂, ◌∙◌, subst}
use Rattle.std.specs.List.{list_any, AllByRecursion, dedup, dedup_from}
use Rattle.std.specs.List.Sorted.{IsStrictlySortedBy, IsPermutation, IsSorted}
use Rattle.std.specs.Cmp.{IsTotalOrder, Equal-is}
use Rattle.std.specs.Ordering.{eq_by_cmp, is_eq, match_ordering, ordering_reverse}
use Rattle.std.specs.declared.cmp.Ordering.{Ordering}
use Rattle.std.specs.declared.cmp.Ordering.TheVariants.{Less, Equal, Greater}
use Rattle.std.proofs.lemmas.Cmp.{tied_itself}
use Rattle.std.proofs.lemmas.List.Sorted.{list_any-IsPermutation}
use Rattle.std.proofs.lemmas.List.Kept.{IsStrictlySortedBy-dedup}
use Rattle.nostr_filter.specs.Choice.{placed, in_order}

or_swap : (a b c : Bool) → (a || (b || c)) ≡ (b || (a || c))
or_swap true true c = refl
or_swap true false c = refl
or_swap false b c = refl

or_twice : (a b : Bool) → (a || (a || b)) ≡ (a || b)
or_twice true b = refl
or_twice false b = refl

module _ {X : Type 0} {R : X → X → Ordering} (o : IsTotalOrder R) (same : (x y : X) → R x y ≡ Equal → x ≡ y) where
  ties_itself : (x : X) → eq_by_cmp R x x ≡ true
  ties_itself x = ap is_eq (tied_itself o x)

  turned : (x y : X) → R x y ≡ Greater → R y x ≡ Less
  turned x y above = o.antisymm y x ∙ ap ordering_reverse above

  below_all : (q x : X) → R q x ≡ Less → (xs : List X) → AllByRecursion (λ y. R x y ≡ Less) xs → AllByRecursion (λ y. R q y ≡ Less) xs
  below_all q x less [] h = tt
  below_all q x less (y ∷ xs) h = (o.trans q x y less h.0, below_all q x less xs h.1)

  absent : (q : X) (xs : List X) → AllByRecursion (λ y. R q y ≡ Less) xs → list_any (eq_by_cmp R q) xs ≡ false
  absent q [] h = refl
  absent q (x ∷ xs) h = rw (h.0) (absent q xs h.1)

  absent_below : (q x : X) (xs : List X) → R q x ≡ Less → IsStrictlySortedBy R (x ∷ xs) → list_any (eq_by_cmp R q) (x ∷ xs) ≡ false
  unfolding IsStrictlySortedBy
  absent_below q x xs less up = absent q (x ∷ xs) (less, below_all q x less xs up.0)

  -- ---- one list for each set

  tails_at : (b : Bool) (q x : X) (xs ys : List X) → eq_by_cmp R q x ≡ b → AllByRecursion (λ y. R x y ≡ Less) xs → AllByRecursion (λ y. R x y ≡ Less) ys
      → (b || list_any (eq_by_cmp R q) xs) ≡ (b || list_any (eq_by_cmp R q) ys) → list_any (eq_by_cmp R q) xs ≡ list_any (eq_by_cmp R q) ys
  tails_at false q x xs ys tie above also both = both
  tails_at true q x xs ys tie above also both =
      let is : q ≡ x = same q x ((Equal-is (R q x)).0 tie) in
      rw is (absent x xs above ∙ sym (absent x ys also))

  tails : (x : X) (xs ys : List X) → AllByRecursion (λ y. R x y ≡ Less) xs → AllByRecursion (λ y. R x y ≡ Less) ys
      → ((q : X) → list_any (eq_by_cmp R q) (x ∷ xs) ≡ list_any (eq_by_cmp R q) (x ∷ ys))
      → (q : X) → list_any (eq_by_cmp R q) xs ≡ list_any (eq_by_cmp R q) ys
  tails x xs ys above also both q = tails_at (eq_by_cmp R q x) q x xs ys refl above also (both q)

  here : (x : X) (xs : List X) → list_any (eq_by_cmp R x) (x ∷ xs) ≡ true
  here x xs = rw (ties_itself x) refl

  heads_at : (r : Ordering) (x y : X) (xs ys : List X) → R x y ≡ r → IsStrictlySortedBy R (x ∷ xs) → IsStrictlySortedBy R (y ∷ ys)
      → ((q : X) → list_any (eq_by_cmp R q) (x ∷ xs) ≡ list_any (eq_by_cmp R q) (y ∷ ys)) → x ≡ y
  heads_at Less x y xs ys is up also both = absurd (true≢false (sym (here x xs) ∙ both x ∙ absent_below x y ys is also))
  heads_at Equal x y xs ys is up also both = same x y is
  heads_at Greater x y xs ys is up also both =
      absurd (true≢false (sym (here y ys) ∙ sym (both y) ∙ absent_below y x xs (turned x y is) up))

  pub one_list : (xs ys : List X) → IsStrictlySortedBy R xs → IsStrictlySortedBy R ys
      → ((q : X) → list_any (eq_by_cmp R q) xs ≡ list_any (eq_by_cmp R q) ys) → xs ≡ ys
  unfolding IsStrictlySortedBy
  one_list [] [] up also both = refl
  one_list [] (y ∷ ys) up also both = absurd (true≢false (sym (here y ys) ∙ sym (both y)))
  one_list (x ∷ xs) [] up also both = absurd (true≢false (sym (here x xs) ∙ both x))
  one_list (x ∷ xs) (y ∷ ys) up also both =
      let is : x ≡ y = heads_at (R x y) x y xs ys refl up also both in
      let above : AllByRecursion (λ z. R x z ≡ Less) ys = subst (λ h. AllByRecursion (λ z. R h z ≡ Less) ys) (sym is) also.0 in
      let alike : (q : X) → list_any (eq_by_cmp R q) (x ∷ xs) ≡ list_any (eq_by_cmp R q) (x ∷ ys) =
      subst (λ h. (q : X) → list_any (eq_by_cmp R q) (x ∷ xs) ≡ list_any (eq_by_cmp R q) (h ∷ ys)) (sym is) both in
      ap₂ (λ a b. a ∷ b) is (one_list xs ys up.1 also.1 (tails x xs ys up.0 above alike))

  -- ---- what `in_order` gives

  all_placed_at : (P : X → Type 0) (r : Ordering) (x y : X) (ys : List X) → P x → P y → AllByRecursion P ys → AllByRecursion P (placed R x ys)
      → AllByRecursion P (match_ordering r (x ∷ y ∷ ys) (y ∷ ys) (y ∷ placed R x ys))
  all_placed_at P Less x y ys px py all later = (px, (py, all))
  all_placed_at P Equal x y ys px py all later = (py, all)
  all_placed_at P Greater x y ys px py all later = (py, later)

  all_placed : (P : X → Type 0) (x : X) (ys : List X) → P x → AllByRecursion P ys → AllByRecursion P (placed R x ys)
  all_placed P x [] px all = (px, tt)
  all_placed P x (y ∷ ys) px all = all_placed_at P (R x y) x y ys px all.0 all.1 (all_placed P x ys px all.1)

  placed_at : (r : Ordering) (x y : X) (ys : List X) → R x y ≡ r → IsStrictlySortedBy R (y ∷ ys) → IsStrictlySortedBy R (placed R x ys)
      → IsStrictlySortedBy R (match_ordering r (x ∷ y ∷ ys) (y ∷ ys) (y ∷ placed R x ys))
  unfolding IsStrictlySortedBy
  placed_at Less x y ys is up later = ((is, below_all x y is ys up.0), up)
  placed_at Equal x y ys is up later = up
  placed_at Greater x y ys is up later = (all_placed (λ z. R y z ≡ Less) x ys (turned x y is) up.0, later)

  placed_sorted : (x : X) (ys : List X) → IsStrictlySortedBy R ys → IsStrictlySortedBy R (placed R x ys)
  unfolding IsStrictlySortedBy
  placed_sorted x [] up = (tt, tt)
  placed_sorted x (y ∷ ys) up = placed_at (R x y) x y ys refl up (placed_sorted x ys up.1)

  pub in_order_sorted : (xs : List X) → IsStrictlySortedBy R (in_order R xs)
  unfolding IsStrictlySortedBy
  in_order_sorted [] = tt
  in_order_sorted (x ∷ xs) = placed_sorted x (in_order R xs) (in_order_sorted xs)

  any_placed_at : (p : X → Bool) (r : Ordering) (x y : X) (ys : List X) → R x y ≡ r → list_any p (placed R x ys) ≡ (p x || list_any p ys)
      → list_any p (match_ordering r (x ∷ y ∷ ys) (y ∷ ys) (y ∷ placed R x ys)) ≡ (p x || (p y || list_any p ys))
  any_placed_at p Less x y ys is later = refl
  any_placed_at p Equal x y ys is later = let e : x ≡ y = same x y is in rw e (sym (or_twice (p y) (list_any p ys)))
  any_placed_at p Greater x y ys is later = rw later (or_swap (p y) (p x) (list_any p ys))

  any_placed : (p : X → Bool) (x : X) (ys : List X) → list_any p (placed R x ys) ≡ (p x || list_any p ys)
  any_placed p x [] = refl
  any_placed p x (y ∷ ys) = any_placed_at p (R x y) x y ys refl (any_placed p x ys)

  pub any_in_order : (p : X → Bool) (xs : List X) → list_any p (in_order R xs) ≡ list_any p xs
  any_in_order p [] = refl
  any_in_order p (x ∷ xs) = any_placed p x (in_order R xs) ∙ ap (λ b. p x || b) (any_in_order p xs)

  -- ---- what a sort and `dedup` give

  module _ {E : X → X → Bool} (ties : (x y : X) → E x y ≡ eq_by_cmp R x y) where
    any_dedup_at : (p : X → Bool) (b : Bool) (k x : X) (xs : List X) → E x k ≡ b → list_any p (dedup_from E k xs) ≡ (p k || list_any p xs)
        → list_any p (dedup_from E x xs) ≡ (p x || list_any p xs)
        → list_any p (cond b (dedup_from E k xs) (k ∷ dedup_from E x xs)) ≡ (p k || (p x || list_any p xs))
    any_dedup_at p true k x xs is kept more =
        let e : x ≡ k = same x k ((Equal-is (R x k)).0 (sym (ties x k) ∙ is)) in
        rw e (kept ∙ sym (or_twice (p k) (list_any p xs)))
    any_dedup_at p false k x xs is kept more = ap (λ b. p k || b) more

    any_dedup_from : (p : X → Bool) (k : X) (xs : List X) → list_any p (dedup_from E k xs) ≡ (p k || list_any p xs)
    any_dedup_from p k [] = refl
    any_dedup_from p k (x ∷ xs) = any_dedup_at p (E x k) k x xs refl (any_dedup_from p k xs) (any_dedup_from p x xs)

    any_dedup : (p : X → Bool) (xs : List X) → list_any p (dedup E xs) ≡ list_any p xs
    any_dedup p [] = refl
    any_dedup p (x ∷ xs) = any_dedup_from p x xs

    -- a sort of xs to ys, and then `dedup`
    pub sorted_once : (xs ys : List X) → IsPermutation xs ys → IsSorted R ys → dedup E ys ≡ in_order R xs
    sorted_once xs ys moved up =
        one_list (dedup E ys) (in_order R xs) (IsStrictlySortedBy-dedup o ties ys up) (in_order_sorted xs)
        (λ q. any_dedup (eq_by_cmp R q) ys ∙ sym (list_any-IsPermutation (eq_by_cmp R q) xs ys moved) ∙ sym (any_in_order (eq_by_cmp R q) xs))
