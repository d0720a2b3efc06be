-- Lists made one after another.
use Rattle.std.proofs.Common.{◌≡◌, ℕ, ◌+◌, ◌<◌, ◌≤◌, ◌==◌, ◌||◌, Bool, true, false, List, [], ◌∷◌, ◌++◌, length, get_or, take, flat_map, Some, inl, inr, refl, sym, ap, ◌∙◌, subst, arith}
use Rattle.std.specs.Prelude.{slice_get}
use Rattle.std.specs.declared.cmp.Ordering.TheVariants.{Less}
use Rattle.std.specs.Ordering.{nat_cmp}
use Rattle.std.specs.List.{All}
use Rattle.std.specs.List.Sorted.{IsStrictlySortedBy}
use Rattle.std.proofs.lemmas.Bool.{cases_eq, eq-eqb, ne_eqb, or_from, or_left, or_right}
use Rattle.std.proofs.lemmas.Grind.{flat_map-append}
use Rattle.std.proofs.lemmas.List.{take_more, append-nil}
use Rattle.std.proofs.lemmas.List.Elements.{All-nil, All-push, All-head, All-tail, All-weaker}
use Rattle.std.proofs.lemmas.List.Folds.{list_any-append}
use Rattle.std.proofs.lemmas.Option.{slice_get-get_or}
use Rattle.sharing.specs.Sharing.{is_among}
use Rattle.sharing.proofs.Orders.{sorted_push, less_from}

-- what is made of the element at the next place
pub one_more : {X : Type 0} (f : X → List ℕ) (all : List X) (i : ℕ) (x : X) → i < length all → slice_get all i ≡ Some x → flat_map f (take i all) ++ f x ≡ flat_map f (take (i + 1) all)
one_more f all i x lt is =
    let found : Some (get_or all i x) ≡ Some x = sym (slice_get-get_or all i x lt) ∙ is in
    let same : get_or all i x ≡ x = cc in
    let front : take (i + 1) all ≡ take i all ++ x ∷ [] = take_more all i x lt ∙ ap (λ y. take i all ++ y ∷ []) same in
    sym (ap (flat_map f) front ∙ flat_map-append f (take i all) (x ∷ []) ∙ ap (λ t. flat_map f (take i all) ++ t) (append-nil (f x)))

-- no number is among smaller ones
pub none_past : (xs : List ℕ) (n r : ℕ) → All (λ x. x < n) xs → n ≤ r → is_among xs r ≡ false
none_past [] n r h le = refl
none_past (x ∷ xs) n r h le =
    let lt : x < n = All-head (λ x. x < n) x xs h in
    or_from (r == x) (is_among xs r) (ne_eqb r x (λ e. absurd (omega arith))) (none_past xs n r (All-tail (λ x. x < n) x xs h) le)

pub none_sorted : IsStrictlySortedBy nat_cmp []
unfolding IsStrictlySortedBy
none_sorted = tt

-- members of a set below a number, in order
pub record Gathers (set found : List ℕ) (n : ℕ) : Type 0 where
  pub members : (r : ℕ) → r < n → is_among found r ≡ is_among set r
  pub ordered : IsStrictlySortedBy nat_cmp found
  pub below : All (λ r. r < n) found

or_no : (b : Bool) → (b || (false || false)) ≡ b
or_no true = refl
or_no false = refl

pub gather_member : (set found new : List ℕ) (n : ℕ) → Gathers set found n → is_among set n ≡ true → new ≡ found ++ n ∷ [] → Gathers set new (n + 1)
gather_member set found new n h is e = subst (λ xs. Gathers set xs (n + 1)) (sym e) (record {
  members = λ r lt. list_any-append (λ x. r == x) found (n ∷ []) ∙ elim (cases_eq r n) [
    | inl same ↦ or_right (is_among found r) ((r == n) || false) (or_left (r == n) false (eq-eqb r n same)) ∙ sym (ap (is_among set) same ∙ is)
    | inr other ↦ ap (λ b. is_among found r || (b || false)) (ne_eqb r n other) ∙ or_no (is_among found r) ∙ h.members r (omega arith)
  ];
  ordered = sorted_push nat_cmp found n h.ordered (All-weaker (λ x. x < n) (λ x. nat_cmp x n ≡ Less) (λ x lt. less_from x n lt) found h.below);
  below = All-push (λ x. x < n + 1) found n (All-weaker (λ x. x < n) (λ x. x < n + 1) (λ x lt. omega arith) found h.below) (omega arith);
})

pub gather_other : (set found : List ℕ) (n : ℕ) → Gathers set found n → is_among set n ≡ false → Gathers set found (n + 1)
gather_other set found n h is = record {
  members = λ r lt. elim (cases_eq r n) [
    | inl same ↦ none_past found n r h.below (omega arith) ∙ sym (ap (is_among set) same ∙ is)
    | inr other ↦ h.members r (omega arith)
  ];
  ordered = h.ordered;
  below = All-weaker (λ x. x < n) (λ x. x < n + 1) (λ x lt. omega arith) found h.below;
}

pub gather_none : (set : List ℕ) → Gathers set [] 0
gather_none set = record {
  members = λ r lt. absurd (omega arith);
  ordered = none_sorted;
  below = All-nil (λ r. r < 0);
}
