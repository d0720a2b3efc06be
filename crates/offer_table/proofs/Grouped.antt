-- The groups of offers: what they are, and that rows with the offers' ids are these groups.
use Rattle.std.proofs.Common.{◌≡◌, ℕ, ◌<◌, ◌==◌, ◌||◌, Bool, true, false, cond, List, [], ◌∷◌, length, map, refl, sym, ap, ◌∙◌, subst, arith, inl, inr, ◌⊎◌}
use Rattle.std.specs.declared.cmp.Ordering.{Ordering}
use Rattle.std.specs.declared.cmp.Ordering.TheVariants.{Less, Equal, Greater}
use Rattle.std.specs.Ordering.{nat_cmp, match_ordering, ordering_reverse}
use Rattle.std.specs.List.{All, filter, list_any}
use Rattle.std.specs.List.Sorted.{IsStrictlySortedBy}
use Rattle.std.proofs.lemmas.Bool.{false≢true, cases_Bool, cases_lt, eq-eqb, eqb-true, or_left, or_right}
use Rattle.std.proofs.lemmas.Cmp.{nat_cmp_total}
use Rattle.std.proofs.lemmas.List.Elements.{All-head, All-tail, All-cons, All-nil, All-map, All-weaker}
use Rattle.item_key.specs.declared.Id.{Id}
use Rattle.sharing.specs.Offers.{AreRelays}
use Rattle.sharing.proofs.Orders.{head_sorted, tail_sorted, less_from, lt_from_less}
use Rattle.offer_table.specs.Relays.{bits_of}
use Rattle.offer_table.specs.Groups.{set_cmp, with_set, sets_of, ids_numbered, groups_of}
use Rattle.offer_table.specs.Rows.{ids_at, row_cmp, AreRows, IsGrouped}
use Rattle.offer_table.proofs.Cuts.{sorted_cons}
use Rattle.offer_table.proofs.Numbers.{same_set}
use Rattle.offer_table.proofs.Rows.{Rows, number_of, AllAbove, none_above, same_number}

abbrev pub Sets : Type 0
Sets = List (List ℕ)

-- whether some set has this number
abbrev pub has_number : ℕ → Sets → Bool
has_number n sets = list_any (λ t. n == bits_of t) sets

module _ (P : List ℕ → Type 0) where
  placed : (s t : List ℕ) (ts new : Sets) (o : Ordering) → P s → All P (t ∷ ts) → All P new → All P (match_ordering o (s ∷ t ∷ ts) (t ∷ ts) (t ∷ new))
  placed s t ts new Less one h rest = All-cons P s (t ∷ ts) one h
  placed s t ts new Equal one h rest = h
  placed s t ts new Greater one h rest = All-cons P t new (All-head P t ts h) rest

  All-with_set : (s : List ℕ) (ts : Sets) → P s → All P ts → All P (with_set s ts)
  All-with_set s [] one h = All-cons P s [] one (All-nil P)
  All-with_set s (t ∷ ts) one h = placed s t ts (with_set s ts) (set_cmp s t) one h (All-with_set s ts one (All-tail P t ts h))

  -- what is so of each offer's relays is so of each set
  pub All-sets_of : (offers : List (Id × List ℕ)) → All (λ o. P o.1) offers → All P (sets_of offers)
  All-sets_of [] h = All-nil P
  All-sets_of (o ∷ os) h = All-with_set o.1 (sets_of os) (All-head (λ o. P o.1) o os h) (All-sets_of os (All-tail (λ o. P o.1) o os h))

cases_cmp : (o : Ordering) → (o ≡ Less) ⊎ ((o ≡ Equal) ⊎ (o ≡ Greater))
cases_cmp Less = inl refl
cases_cmp Equal = inr (inl refl)
cases_cmp Greater = inr (inr refl)

sorted_with : (s : List ℕ) (ts : Sets) → IsStrictlySortedBy set_cmp ts → IsStrictlySortedBy set_cmp (with_set s ts)
unfolding IsStrictlySortedBy
sorted_with s [] h = (tt, tt)
sorted_with s (t ∷ ts) h =
    elim (cases_cmp (set_cmp s t)) [
      | inl e ↦ subst (λ o. IsStrictlySortedBy set_cmp (match_ordering o (s ∷ t ∷ ts) (t ∷ ts) (t ∷ with_set s ts))) (sym e)
          (sorted_cons set_cmp s (t ∷ ts) (All-cons (λ y. set_cmp s y ≡ Less) t ts e (All-weaker (λ y. set_cmp t y ≡ Less) (λ y. set_cmp s y ≡ Less) (λ y g. less_from (bits_of s) (bits_of y) (let a : bits_of s < bits_of t = lt_from_less (bits_of s) (bits_of t) e in let b : bits_of t < bits_of y = lt_from_less (bits_of t) (bits_of y) g in omega arith)) ts (head_sorted set_cmp t ts h))) h)
      | inr other ↦ elim other [
        | inl e ↦ subst (λ o. IsStrictlySortedBy set_cmp (match_ordering o (s ∷ t ∷ ts) (t ∷ ts) (t ∷ with_set s ts))) (sym e) h
        | inr e ↦ subst (λ o. IsStrictlySortedBy set_cmp (match_ordering o (s ∷ t ∷ ts) (t ∷ ts) (t ∷ with_set s ts))) (sym e)
            (sorted_cons set_cmp t (with_set s ts) (All-with_set (λ y. set_cmp t y ≡ Less) s ts (nat_cmp_total.antisymm (bits_of t) (bits_of s) ∙ ap ordering_reverse e) (head_sorted set_cmp t ts h)) (sorted_with s ts (tail_sorted set_cmp t ts h)))
      ]
    ]

pub sorted_sets : (offers : List (Id × List ℕ)) → IsStrictlySortedBy set_cmp (sets_of offers)
unfolding IsStrictlySortedBy
sorted_sets [] = tt
sorted_sets (o ∷ os) = sorted_with o.1 (sets_of os) (sorted_sets os)

swap_or : (a b c : Bool) → (b || (a || c)) ≡ (a || (b || c))
swap_or true true c = refl
swap_or true false c = refl
swap_or false true c = refl
swap_or false false c = refl

twice_or : (a b c : Bool) → a ≡ b → (b || c) ≡ (a || (b || c))
twice_or true b c e = ap (λ x. x || c) (sym e)
twice_or false b c e = refl

number_with : (n : ℕ) (s : List ℕ) (ts : Sets) → has_number n (with_set s ts) ≡ ((n == bits_of s) || has_number n ts)
number_with n s [] = refl
number_with n s (t ∷ ts) =
    elim (cases_cmp (set_cmp s t)) [
      | inl e ↦ ap (λ o. has_number n (match_ordering o (s ∷ t ∷ ts) (t ∷ ts) (t ∷ with_set s ts))) e
      | inr other ↦ elim other [
        | inl e ↦ ap (λ o. has_number n (match_ordering o (s ∷ t ∷ ts) (t ∷ ts) (t ∷ with_set s ts))) e ∙ twice_or (n == bits_of s) (n == bits_of t) (has_number n ts) (ap (λ k. n == k) (same_number (bits_of s) (bits_of t) e))
        | inr e ↦ ap (λ o. has_number n (match_ordering o (s ∷ t ∷ ts) (t ∷ ts) (t ∷ with_set s ts))) e ∙ ap (λ b. (n == bits_of t) || b) (number_with n s ts) ∙ swap_or (n == bits_of s) (n == bits_of t) (has_number n ts)
      ]
    ]

-- a set has a number just where an offer has it
pub number_is : (n : ℕ) (offers : List (Id × List ℕ)) → has_number n (sets_of offers) ≡ list_any (λ o. n == bits_of o.1) offers
number_is n [] = refl
number_is n (o ∷ os) = number_with n o.1 (sets_of os) ∙ ap (λ b. (n == bits_of o.1) || b) (number_is n os)

none_numbered : (n : ℕ) (offers : List (Id × List ℕ)) → list_any (λ o. n == bits_of o.1) offers ≡ false → ids_numbered n offers ≡ []
none_numbered n [] h = refl
none_numbered n (o ∷ os) h =
    elim (cases_Bool (n == bits_of o.1)) [
      | inl t ↦ absurd (false≢true (sym h ∙ or_left (n == bits_of o.1) (list_any (λ o. n == bits_of o.1) os) t))
      | inr f ↦ ap (λ b. map (λ (o : Id × List ℕ). o.0) (cond b (o ∷ filter (λ o. n == bits_of o.1) os) (filter (λ o. n == bits_of o.1) os))) f
          ∙ none_numbered n os (sym (ap (λ b. b || list_any (λ o. n == bits_of o.1) os) f) ∙ h)
    ]

some_numbered : (n : ℕ) (offers : List (Id × List ℕ)) → list_any (λ o. n == bits_of o.1) offers ≡ true → 0 < length (ids_numbered n offers)
some_numbered n [] h = absurd (false≢true h)
some_numbered n (o ∷ os) h =
    elim (cases_Bool (n == bits_of o.1)) [
      | inl t ↦ subst (λ b. 0 < length (map (λ (o : Id × List ℕ). o.0) (cond b (o ∷ filter (λ o. n == bits_of o.1) os) (filter (λ o. n == bits_of o.1) os)))) (sym t) (omega arith)
      | inr f ↦ subst (λ b. 0 < length (map (λ (o : Id × List ℕ). o.0) (cond b (o ∷ filter (λ o. n == bits_of o.1) os) (filter (λ o. n == bits_of o.1) os)))) (sym f)
          (some_numbered n os (sym (ap (λ b. b || list_any (λ o. n == bits_of o.1) os) f) ∙ h))
    ]

-- the ids of the groups
abbrev pub group_by : List (Id × List ℕ) → List ℕ → List ℕ × List Id
group_by offers s = (s, ids_numbered (bits_of s) offers)

ids_of_sets : (offers : List (Id × List ℕ)) (ts : Sets) (n : ℕ) → ids_at (map (group_by offers) ts) n ≡ cond (has_number n ts) (ids_numbered n offers) []
ids_of_sets offers [] n = refl
ids_of_sets offers (t ∷ ts) n =
    elim (cases_Bool (n == bits_of t)) [
      | inl e ↦
          ap (λ b. cond b (ids_numbered (bits_of t) offers) (ids_at (map (group_by offers) ts) n)) e
          ∙ ap (λ k. ids_numbered k offers) (sym (eqb-true n (bits_of t) e))
          ∙ sym (ap (λ b. cond (b || has_number n ts) (ids_numbered n offers) []) e)
      | inr f ↦
          ap (λ b. cond b (ids_numbered (bits_of t) offers) (ids_at (map (group_by offers) ts) n)) f
          ∙ ids_of_sets offers ts n
          ∙ sym (ap (λ b. cond (b || has_number n ts) (ids_numbered n offers) []) f)
    ]

-- the groups have the offers' ids
pub groups_grouped : (offers : List (Id × List ℕ)) → IsGrouped offers (groups_of offers)
unfolding groups_of
groups_grouped offers n =
    ids_of_sets offers (sets_of offers) n
    ∙ elim (cases_Bool (has_number n (sets_of offers))) [
      | inl t ↦ ap (λ b. cond b (ids_numbered n offers) []) t
      | inr f ↦ ap (λ b. cond b (ids_numbered n offers) []) f ∙ sym (none_numbered n offers (sym (number_is n offers) ∙ f))
    ]

own_number : (ts : Sets) → All (λ t. has_number (bits_of t) ts ≡ true) ts
own_number [] = All-nil (λ t. has_number (bits_of t) [] ≡ true)
own_number (t ∷ ts) =
    All-cons (λ s. has_number (bits_of s) (t ∷ ts) ≡ true) t ts (or_left (bits_of t == bits_of t) (has_number (bits_of t) ts) (eq-eqb (bits_of t) (bits_of t) refl))
    (All-weaker (λ s. has_number (bits_of s) ts ≡ true) (λ s. has_number (bits_of s) (t ∷ ts) ≡ true) (λ s h. or_right (bits_of s == bits_of t) (has_number (bits_of s) ts) h) ts (own_number ts))

sorted_groups : (offers : List (Id × List ℕ)) (ts : Sets) → IsStrictlySortedBy set_cmp ts → IsStrictlySortedBy row_cmp (map (group_by offers) ts)
unfolding IsStrictlySortedBy
sorted_groups offers [] h = tt
sorted_groups offers (t ∷ ts) h =
    sorted_cons row_cmp (group_by offers t) (map (group_by offers) ts) (All-map (λ g. row_cmp (group_by offers t) g ≡ Less) (group_by offers) ts (head_sorted set_cmp t ts h))
    (sorted_groups offers ts (tail_sorted set_cmp t ts h))

-- the groups are rows in order
pub groups_rows : (offers : List (Id × List ℕ)) → All (λ o. AreRelays o.1) offers → AreRows (groups_of offers)
unfolding groups_of
groups_rows offers h = record {
  ordered = sorted_groups offers (sets_of offers) (sorted_sets offers);
  relays = All-map (λ g. AreRelays g.0) (group_by offers) (sets_of offers) (All-sets_of AreRelays offers h);
  some = All-map (λ g. 0 < length g.1) (group_by offers) (sets_of offers)
      (All-weaker (λ t. has_number (bits_of t) (sets_of offers) ≡ true) (λ t. 0 < length (ids_numbered (bits_of t) offers)) (λ t e. some_numbered (bits_of t) offers (sym (number_is (bits_of t) offers) ∙ e)) (sets_of offers) (own_number (sets_of offers)));
}

-- what comes before the first has no ids
none_below : (g : List ℕ × List Id) (gs : Rows) (n : ℕ) → n < number_of g → IsStrictlySortedBy row_cmp (g ∷ gs) → ids_at (g ∷ gs) n ≡ []
none_below g gs n lt s =
    none_above (g ∷ gs) n (All-cons (λ v. nat_cmp n (number_of v) ≡ Less) g gs (less_from n (number_of g) lt)
    (All-weaker (λ v. row_cmp g v ≡ Less) (λ v. nat_cmp n (number_of v) ≡ Less) (λ v e. less_from n (number_of v) (let more : number_of g < number_of v = lt_from_less (number_of g) (number_of v) e in omega arith)) gs (head_sorted row_cmp g gs s)))

ids_first : (g : List ℕ × List Id) (gs : Rows) → ids_at (g ∷ gs) (number_of g) ≡ g.1
ids_first g gs = ap (λ b. cond b g.1 (ids_at gs (number_of g))) (eq-eqb (number_of g) (number_of g) refl)

first_first : (g h : List ℕ × List Id) (gs hs : Rows) → IsStrictlySortedBy row_cmp (h ∷ hs) → 0 < length g.1 → ids_at (g ∷ gs) (number_of g) ≡ ids_at (h ∷ hs) (number_of g) → number_of g < number_of h → ⊥
first_first g h gs hs t some same lt = let none : g.1 ≡ [] = sym (ids_first g gs) ∙ same ∙ none_below h hs (number_of g) lt t in omega (arith, ap length none)

same_heads : (g h : List ℕ × List Id) (gs hs : Rows) → AreRows (g ∷ gs) → AreRows (h ∷ hs) → ((n : ℕ) → ids_at (g ∷ gs) n ≡ ids_at (h ∷ hs) n) → number_of g ≡ number_of h
same_heads g h gs hs a b same =
    elim (cases_lt (number_of g) (number_of h)) [
      | inl lt ↦ absurd (first_first g h gs hs b.ordered (All-head (λ g. 0 < length g.1) g gs a.some) (same (number_of g)) lt)
      | inr ge ↦ elim (cases_lt (number_of h) (number_of g)) [
        | inl lt ↦ absurd (first_first h g hs gs a.ordered (All-head (λ g. 0 < length g.1) h hs b.some) (sym (same (number_of h))) lt)
        | inr le ↦ omega arith
      ]
    ]

rows_tail : (g : List ℕ × List Id) (gs : Rows) → AreRows (g ∷ gs) → AreRows gs
rows_tail g gs a = record { ordered = tail_sorted row_cmp g gs a.ordered; relays = All-tail (λ g. AreRelays g.0) g gs a.relays; some = All-tail (λ g. 0 < length g.1) g gs a.some }

same_tails : (g h : List ℕ × List Id) (gs hs : Rows) → number_of g ≡ number_of h → AreRows (g ∷ gs) → AreRows (h ∷ hs) → ((n : ℕ) → ids_at (g ∷ gs) n ≡ ids_at (h ∷ hs) n) → (n : ℕ) → ids_at gs n ≡ ids_at hs n
same_tails g h gs hs e a b same n =
    elim (cases_Bool (n == number_of g)) [
      | inl t ↦
          (let here : n ≡ number_of g = eqb-true n (number_of g) t in
          let other : n ≡ number_of h = here ∙ e in
          none_above gs n (subst (λ k. AllAbove k gs) (sym here) (head_sorted row_cmp g gs a.ordered)) ∙ sym (none_above hs n (subst (λ k. AllAbove k hs) (sym other) (head_sorted row_cmp h hs b.ordered))))
      | inr f ↦
          sym (ap (λ b. cond b g.1 (ids_at gs n)) f) ∙ same n ∙ ap (λ b. cond b h.1 (ids_at hs n)) (ap (λ k. n == k) (sym e) ∙ f)
    ]

-- rows are determined by the ids beside each number
pub same_rows : (gs hs : Rows) → AreRows gs → AreRows hs → ((n : ℕ) → ids_at gs n ≡ ids_at hs n) → gs ≡ hs
same_rows [] [] a b same = refl
same_rows [] (h ∷ hs) a b same = absurd (let none : [] ≡ h.1 = same (number_of h) ∙ ids_first h hs in let some : 0 < length h.1 = All-head (λ g. 0 < length g.1) h hs b.some in omega (arith, ap length none))
same_rows (g ∷ gs) [] a b same = absurd (let none : g.1 ≡ [] = sym (ids_first g gs) ∙ same (number_of g) in let some : 0 < length g.1 = All-head (λ g. 0 < length g.1) g gs a.some in omega (arith, ap length none))
same_rows (g ∷ gs) (h ∷ hs) a b same =
    let e : number_of g ≡ number_of h = same_heads g h gs hs a b same in
    let sets : g.0 ≡ h.0 = same_set g.0 h.0 (All-head (λ g. AreRelays g.0) g gs a.relays) (All-head (λ g. AreRelays g.0) h hs b.relays) e in
    let ids : g.1 ≡ h.1 = sym (ids_first g gs) ∙ same (number_of g) ∙ ap (ids_at (h ∷ hs)) e ∙ ids_first h hs in
    ap (λ s. (s, g.1) ∷ gs) sets ∙ ap (λ xs. (h.0, xs) ∷ gs) ids ∙ ap (λ xs. h ∷ xs) (same_rows gs hs (rows_tail g gs a) (rows_tail h hs b) (same_tails g h gs hs e a b same))

-- rows with the offers' ids are the groups
pub rows_are_groups : (offers : List (Id × List ℕ)) (rows : Rows) → All (λ o. AreRelays o.1) offers → AreRows rows → IsGrouped offers rows → rows ≡ groups_of offers
rows_are_groups offers rows h a grouped = same_rows rows (groups_of offers) a (groups_rows offers h) (λ n. grouped n ∙ sym (groups_grouped offers n))
