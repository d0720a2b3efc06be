-- Each offered id stands in one group of its offers.
use Rattle.std.proofs.Common.{◌≡◌, ℕ, ◌+◌, ◌<◌, ◌==◌, ◌||◌, Bool, true, false, cond, List, [], ◌∷◌, length, map, Some, None, Option, refl, sym, ap, ◌∙◌, subst, arith, inl, inr, ◌⊎◌}
use Rattle.std.specs.Prelude.{unwrap_or, is_some}
use Rattle.std.specs.Option.{IfSome}
use Rattle.std.specs.declared.cmp.Ordering.TheVariants.{Less}
use Rattle.std.specs.Ordering.{nat_cmp}
use Rattle.std.specs.List.{All, filter, list_any, count_by, sum_by}
use Rattle.std.specs.List.Sorted.{IsStrictlySortedBy}
use Rattle.std.proofs.lemmas.Bool.{false≢true, cases_Bool, eq-eqb, ne_eqb, eqb-true, or_left, or_right}
use Rattle.std.proofs.lemmas.List.Sums.{sum_by-cons}
use Rattle.std.proofs.lemmas.List.Elements.{All-head, All-tail, All-cons, All-nil, All-map, All-weaker, All-filter}
use Rattle.std.proofs.lemmas.Map.Entries.{All-lookup}
use Rattle.item_key.specs.declared.Id.{Id}
use Rattle.sharing.specs.Offers.{AreRelays, IsOffers, Ascend, id_cmp, is_id, beside, relays_of}
use Rattle.sharing.proofs.Orders.{head_sorted, tail_sorted, same_id, id_apart, id_flips, All-unmap, lt_from_less}
use Rattle.sharing.proofs.Looks.{map_twice, map_itself}
use Rattle.offer_table.specs.Relays.{bits_of}
use Rattle.offer_table.specs.Groups.{set_cmp, sets_of, ids_numbered, groups_of, is_listed, AreGroups}
use Rattle.offer_table.proofs.Cuts.{sorted_cons}
use Rattle.offer_table.proofs.Numbers.{same_set}
use Rattle.offer_table.proofs.Grouped.{Sets, has_number, group_by, number_is, sorted_sets, All-sets_of, groups_rows}

-- ids that pass stay in order
pub filter_ascends : (p : Id × List ℕ → Bool) (os : List (Id × List ℕ)) → Ascend (map (λ o. o.0) os) → Ascend (map (λ o. o.0) (filter p os))
filter_ascends p [] h = h
filter_ascends p (o ∷ os) h =
    let rest : Ascend (map (λ o. o.0) (filter p os)) = filter_ascends p os (tail_sorted id_cmp o.0 (map (λ o. o.0) os) h) in
    let behind : All (λ i. id_cmp o.0 i ≡ Less) (map (λ (q : Id × List ℕ). q.0) (filter p os)) =
    All-map (λ i. id_cmp o.0 i ≡ Less) (λ (q : Id × List ℕ). q.0) (filter p os) (All-filter p (λ (q : Id × List ℕ). id_cmp o.0 q.0 ≡ Less) os (All-unmap (λ i. id_cmp o.0 i ≡ Less) (λ (q : Id × List ℕ). q.0) os (head_sorted id_cmp o.0 (map (λ o. o.0) os) h))) in
    elim (cases_Bool (p o)) [
      | inl t ↦ subst (λ b. Ascend (map (λ (q : Id × List ℕ). q.0) (cond b (o ∷ filter p os) (filter p os)))) (sym t) (sorted_cons id_cmp o.0 (map (λ q. q.0) (filter p os)) behind rest)
      | inr f ↦ subst (λ b. Ascend (map (λ (q : Id × List ℕ). q.0) (cond b (o ∷ filter p os) (filter p os)))) (sym f) rest
    ]

-- an id that comes before those is none of them
listed_behind : (vs : List Id) (k : Id) → All (λ v. id_cmp k v ≡ Less) vs → is_listed vs k ≡ false
listed_behind [] k h = refl
listed_behind (v ∷ vs) k h =
    ap (λ b. b || is_listed vs k) (id_flips v k (id_apart k v (All-head (λ v. id_cmp k v ≡ Less) v vs h))) ∙ listed_behind vs k (All-tail (λ v. id_cmp k v ≡ Less) v vs h)

-- whether these relays have this number
abbrev pub numbered : ℕ → Option (List ℕ) → Bool
numbered n None = false
numbered n (Some w) = n == bits_of w

abbrev pub id_of : Id × List ℕ → Id
id_of o = o.0

listed_here : (o : Id × List ℕ) (xs : List (Id × List ℕ)) (i : Id) (b : Bool) → is_id i o.0 ≡ true → is_listed (map id_of xs) i ≡ false → is_listed (map id_of (cond b (o ∷ xs) xs)) i ≡ b
listed_here o xs i true t gone = or_left (is_id i o.0) (is_listed (map id_of xs) i) t
listed_here o xs i false t gone = gone

listed_other : (o : Id × List ℕ) (xs : List (Id × List ℕ)) (i : Id) (b : Bool) → is_id i o.0 ≡ false → is_listed (map id_of (cond b (o ∷ xs) xs)) i ≡ is_listed (map id_of xs) i
listed_other o xs i true f = ap (λ a. a || is_listed (map id_of xs) i) f
listed_other o xs i false f = refl

-- an id is among those of a number just where its relays have that number
pub listed_is : (n : ℕ) (os : List (Id × List ℕ)) (i : Id) → Ascend (map (λ o. o.0) os) → is_listed (ids_numbered n os) i ≡ numbered n (beside os i)
listed_is n [] i h = refl
listed_is n (o ∷ os) i h =
    elim (cases_Bool (is_id i o.0)) [
      | inl t ↦
          (let behind : All (λ (q : Id × List ℕ). id_cmp o.0 q.0 ≡ Less) os = All-unmap (λ i. id_cmp o.0 i ≡ Less) id_of os (head_sorted id_cmp o.0 (map id_of os) h) in
          let gone : is_listed (ids_numbered n os) i ≡ false =
          ap (is_listed (ids_numbered n os)) (same_id i o.0 t)
          ∙ listed_behind (ids_numbered n os) o.0 (All-map (λ i. id_cmp o.0 i ≡ Less) id_of (filter (λ q. n == bits_of q.1) os) (All-filter (λ (q : Id × List ℕ). n == bits_of q.1) (λ (q : Id × List ℕ). id_cmp o.0 q.0 ≡ Less) os behind)) in
          listed_here o (filter (λ q. n == bits_of q.1) os) i (n == bits_of o.1) t gone ∙ sym (ap (λ b. numbered n (cond b (Some o.1) (beside os i))) t))
      | inr f ↦
          listed_other o (filter (λ q. n == bits_of q.1) os) i (n == bits_of o.1) f ∙ listed_is n os i (tail_sorted id_cmp o.0 (map id_of os) h)
          ∙ sym (ap (λ b. numbered n (cond b (Some o.1) (beside os i))) f)
    ]

cases_some : (o : Option (List ℕ)) → (o ≡ None) ⊎ ((w : List ℕ) × (o ≡ Some w))
cases_some None = inl refl
cases_some (Some w) = inr (w, refl)

some_is : (o : Option (List ℕ)) (w : List ℕ) (P : List ℕ → Type 0) → o ≡ Some w → IfSome o P → P w
some_is o w P e h = subst (λ (x : Option (List ℕ)). IfSome x P) e h

module _ (offers : List (Id × List ℕ)) (ok : IsOffers offers) where
  found_relays : (i : Id) (w : List ℕ) → beside offers i ≡ Some w → AreRelays w
  found_relays i w e = some_is (beside offers i) w AreRelays e (All-lookup AreRelays (is_id i) offers ok.relays)

  pub offer_is : (s : List ℕ) → AreRelays s → (i : Id) → is_listed (ids_numbered (bits_of s) offers) i ≡ true → relays_of offers i ≡ s
  offer_is s h i t =
      elim (cases_some (beside offers i)) [
        | inl e ↦ absurd (false≢true (ap (numbered (bits_of s)) (sym e) ∙ sym (listed_is (bits_of s) offers i ok.ascend) ∙ t))
        | inr k ↦
            (let same : bits_of s ≡ bits_of k.0 = eqb-true (bits_of s) (bits_of k.0) (ap (numbered (bits_of s)) (sym k.1) ∙ sym (listed_is (bits_of s) offers i ok.ascend) ∙ t) in
            ap (λ o. unwrap_or o []) k.1 ∙ same_set k.0 s (found_relays i k.0 k.1) h (sym same))
      ]

  pub is_offer : (s : List ℕ) → 0 < length s → (i : Id) → relays_of offers i ≡ s → is_listed (ids_numbered (bits_of s) offers) i ≡ true
  is_offer s some i e =
      listed_is (bits_of s) offers i ok.ascend
      ∙ elim (cases_some (beside offers i)) [
        | inl none ↦ absurd (let empty : [] ≡ s = ap (λ o. unwrap_or o []) (sym none) ∙ e in omega (arith, ap length empty))
        | inr k ↦ ap (numbered (bits_of s)) k.1 ∙ eq-eqb (bits_of s) (bits_of k.0) (ap bits_of (sym e ∙ ap (λ o. unwrap_or o []) k.1))
      ]

module _ {X : Type 0} where
  sum_map : {Y : Type 0} (f : Y → ℕ) (g : X → Y) (xs : List X) → sum_by f (map g xs) ≡ sum_by (λ x. f (g x)) xs
  sum_map f g [] = refl
  sum_map f g (x ∷ xs) = omega (arith, sum_map f g xs, sum_by-cons f (g x) (map g xs), sum_by-cons (λ x. f (g x)) x xs)

  sum_same : (f g : X → ℕ) (xs : List X) → ((x : X) → f x ≡ g x) → sum_by f xs ≡ sum_by g xs
  sum_same f g [] h = refl
  sum_same f g (x ∷ xs) h = omega (arith, sum_same f g xs h, sum_by-cons f x xs, sum_by-cons g x xs, h x)

  sum_parts : (f g h : X → ℕ) (xs : List X) → ((x : X) → f x ≡ g x + h x) → sum_by f xs ≡ sum_by g xs + sum_by h xs
  sum_parts f g h [] e = refl
  sum_parts f g h (x ∷ xs) e = omega (arith, sum_parts f g h xs e, sum_by-cons f x xs, sum_by-cons g x xs, sum_by-cons h x xs, e x)

  sum_none : (f : X → ℕ) (xs : List X) → ((x : X) → f x ≡ 0) → sum_by f xs ≡ 0
  sum_none f [] h = refl
  sum_none f (x ∷ xs) h = omega (arith, sum_none f xs h, sum_by-cons f x xs, h x)

  count_all : (xs : List X) → count_by (λ (x : X). true) xs ≡ length xs
  count_all [] = refl
  count_all (x ∷ xs) = omega (arith, count_all xs, sum_by-cons (λ (y : X). cond {A = ℕ} true 1 0) x xs)

-- one where a set has the number of w and passes
abbrev pub weight : (List ℕ → Bool) → List ℕ → List ℕ → ℕ
weight test w s = cond (test s) (cond (bits_of s == bits_of w) 1 0) 0

cond_zero : (b : Bool) → cond {A = ℕ} b 0 0 ≡ 0
cond_zero true = refl
cond_zero false = refl

no_weight : (test : List ℕ → Bool) (w s : List ℕ) → (bits_of s == bits_of w) ≡ false → weight test w s ≡ 0
no_weight test w s f = ap {B = ℕ} (λ b. cond (test s) (cond b 1 0) 0) f ∙ cond_zero (test s)

none_behind : (test : List ℕ → Bool) (w : List ℕ) (ts : Sets) → All (λ t. nat_cmp (bits_of w) (bits_of t) ≡ Less) ts → sum_by (weight test w) ts ≡ 0
none_behind test w [] h = refl
none_behind test w (t ∷ ts) h =
    let lt : bits_of w < bits_of t = lt_from_less (bits_of w) (bits_of t) (All-head (λ t. nat_cmp (bits_of w) (bits_of t) ≡ Less) t ts h) in
    omega (arith, none_behind test w ts (All-tail (λ t. nat_cmp (bits_of w) (bits_of t) ≡ Less) t ts h), sum_by-cons (weight test w) t ts, no_weight test w t (ne_eqb (bits_of t) (bits_of w) (λ e. absurd (omega arith))))

-- just one of the sets is w
one_set : (test : List ℕ → Bool) (w : List ℕ) (ts : Sets) → AreRelays w → All AreRelays ts → IsStrictlySortedBy set_cmp ts → has_number (bits_of w) ts ≡ true → sum_by (weight test w) ts ≡ cond (test w) 1 0
one_set test w [] h g s there = absurd (false≢true there)
one_set test w (t ∷ ts) h g s there =
    elim (cases_Bool (bits_of w == bits_of t)) [
      | inl e ↦
          (let same : t ≡ w = same_set t w (All-head AreRelays t ts g) h (sym (eqb-true (bits_of w) (bits_of t) e)) in
          let one : weight test w t ≡ cond (test w) 1 0 = ap {B = ℕ} (weight test w) same ∙ ap {B = ℕ} (λ b. cond (test w) (cond b 1 0) 0) (eq-eqb (bits_of w) (bits_of w) refl) in
          let behind : All (λ u. nat_cmp (bits_of w) (bits_of u) ≡ Less) ts = subst (λ x. All (λ u. nat_cmp (bits_of x) (bits_of u) ≡ Less) ts) same (head_sorted set_cmp t ts s) in
          omega (arith, one, none_behind test w ts behind, sum_by-cons (weight test w) t ts))
      | inr f ↦
          (let differ : (bits_of t == bits_of w) ≡ false = ne_eqb (bits_of t) (bits_of w) (λ e. false≢true (sym f ∙ eq-eqb (bits_of w) (bits_of t) (sym e))) in
          let rest : has_number (bits_of w) ts ≡ true = sym (ap (λ b. b || has_number (bits_of w) ts) f) ∙ there in
          omega (arith, no_weight test w t differ, one_set test w ts h (All-tail AreRelays t ts g) (tail_sorted set_cmp t ts s) rest, sum_by-cons (weight test w) t ts))
    ]

length_more : (b : Bool) (o : Id × List ℕ) (xs : List (Id × List ℕ)) → length (map id_of (cond b (o ∷ xs) xs)) ≡ cond b 1 0 + length (map id_of xs)
length_more true o xs = omega arith
length_more false o xs = omega arith

cond_more : (b : Bool) (x y : ℕ) → cond b (x + y) 0 ≡ cond b x 0 + cond b y 0
cond_more true x y = refl
cond_more false x y = refl

-- how many offers pass, set by set
counted : (test : List ℕ → Bool) (ts : Sets) (os : List (Id × List ℕ)) → All AreRelays ts → IsStrictlySortedBy set_cmp ts → All (λ o. AreRelays o.1) os → All (λ o. has_number (bits_of o.1) ts ≡ true) os
    → count_by (λ o. test o.1) os ≡ sum_by (λ s. cond (test s) (length (ids_numbered (bits_of s) os)) 0) ts
counted test ts [] h s g there = sym (sum_none (λ t. cond (test t) 0 0) ts (λ t. cond_zero (test t)))
counted test ts (o ∷ os) h s g there =
    let more : (t : List ℕ) → cond (test t) (length (ids_numbered (bits_of t) (o ∷ os))) 0 ≡ weight test o.1 t + cond (test t) (length (ids_numbered (bits_of t) os)) 0 = λ t.
    ap {B = ℕ} (λ k. cond (test t) k 0) (length_more (bits_of t == bits_of o.1) o (filter (λ q. bits_of t == bits_of q.1) os)) ∙ cond_more (test t) (cond (bits_of t == bits_of o.1) 1 0) (length (ids_numbered (bits_of t) os)) in
    omega (
      arith,
      counted test ts os h s (All-tail (λ o. AreRelays o.1) o os g) (All-tail (λ o. has_number (bits_of o.1) ts ≡ true) o os there),
      sum_by-cons (λ (q : Id × List ℕ). cond (test q.1) 1 0) o os,
      one_set test o.1 ts (All-head (λ o. AreRelays o.1) o os g) h s (All-head (λ o. has_number (bits_of o.1) ts ≡ true) o os there),
      sum_parts (λ t. cond (test t) (length (ids_numbered (bits_of t) (o ∷ os))) 0) (weight test o.1) (λ t. cond (test t) (length (ids_numbered (bits_of t) os)) 0) ts more,
    )

-- each offer's number is that of a set
all_there : (os : List (Id × List ℕ)) → All (λ o. list_any (λ q. bits_of o.1 == bits_of q.1) os ≡ true) os
all_there [] = All-nil (λ (o : Id × List ℕ). list_any (λ (q : Id × List ℕ). bits_of o.1 == bits_of q.1) [] ≡ true)
all_there (o ∷ os) =
    All-cons (λ p. list_any (λ q. bits_of p.1 == bits_of q.1) (o ∷ os) ≡ true) o os (or_left (bits_of o.1 == bits_of o.1) (list_any (λ q. bits_of o.1 == bits_of q.1) os) (eq-eqb (bits_of o.1) (bits_of o.1) refl))
    (All-weaker (λ p. list_any (λ q. bits_of p.1 == bits_of q.1) os ≡ true) (λ p. list_any (λ q. bits_of p.1 == bits_of q.1) (o ∷ os) ≡ true) (λ p h. or_right (bits_of p.1 == bits_of o.1) (list_any (λ q. bits_of p.1 == bits_of q.1) os) h) os (all_there os))

found_there : (os : List (Id × List ℕ)) (i : Id) (w : List ℕ) → beside os i ≡ Some w → list_any (λ q. bits_of w == bits_of q.1) os ≡ true
found_there os i w e =
    some_is (beside os i) w (λ v. list_any (λ q. bits_of v == bits_of q.1) os ≡ true) e (All-lookup (λ v. list_any (λ q. bits_of v == bits_of q.1) os ≡ true) (is_id i) os (all_there os))

module _ (offers : List (Id × List ℕ)) (ok : IsOffers offers) where
  sets_relays : All AreRelays (sets_of offers)
  sets_relays = All-sets_of AreRelays offers ok.relays

  once_is : (i : Id) → sum_by (λ s. cond {A = ℕ} (is_listed (ids_numbered (bits_of s) offers) i) 1 0) (sets_of offers) ≡ cond (is_some (beside offers i)) 1 0
  once_is i =
      sum_same (λ s. cond {A = ℕ} (is_listed (ids_numbered (bits_of s) offers) i) 1 0) (λ s. cond {A = ℕ} (numbered (bits_of s) (beside offers i)) 1 0) (sets_of offers) (λ s. ap {B = ℕ} (λ b. cond b 1 0) (listed_is (bits_of s) offers i ok.ascend))
      ∙ elim (cases_some (beside offers i)) [
        | inl e ↦ sum_none (λ s. cond {A = ℕ} (numbered (bits_of s) (beside offers i)) 1 0) (sets_of offers) (λ s. ap {B = ℕ} (λ o. cond (numbered (bits_of s) o) 1 0) e) ∙ sym (ap {B = ℕ} (λ o. cond (is_some o) 1 0) e)
        | inr k ↦
            sum_same (λ s. cond {A = ℕ} (numbered (bits_of s) (beside offers i)) 1 0) (weight (λ _. true) k.0) (sets_of offers) (λ s. ap {B = ℕ} (λ o. cond (numbered (bits_of s) o) 1 0) k.1)
            ∙ one_set (λ _. true) k.0 (sets_of offers) (found_relays offers ok i k.0 k.1) sets_relays (sorted_sets offers) (number_is (bits_of k.0) offers ∙ found_there offers i k.0 k.1)
            ∙ sym (ap {B = ℕ} (λ o. cond (is_some o) 1 0) k.1)
      ]

  counts_are : (test : List ℕ → Bool) → count_by (λ o. test o.1) offers ≡ sum_by (λ s. cond (test s) (length (ids_numbered (bits_of s) offers)) 0) (sets_of offers)
  counts_are test =
      counted test (sets_of offers) offers sets_relays (sorted_sets offers) ok.relays
      (All-weaker (λ o. list_any (λ q. bits_of o.1 == bits_of q.1) offers ≡ true) (λ o. has_number (bits_of o.1) (sets_of offers) ≡ true) (λ o h. number_is (bits_of o.1) offers ∙ h) offers (all_there offers))

  -- what is so of the groups of offers
  pub are_groups : AreGroups offers (groups_of offers)
  unfolding groups_of
  are_groups = record {
    ordered = subst (IsStrictlySortedBy set_cmp) (sym (map_twice (λ (g : List ℕ × List Id). g.0) (group_by offers) (sets_of offers) ∙ map_itself (sets_of offers))) (sorted_sets offers);
    relays = (groups_rows offers ok.relays).relays;
    offered = All-map (λ g. 0 < length g.0) (group_by offers) (sets_of offers) (All-sets_of (λ s. 0 < length s) offers ok.some);
    some = (groups_rows offers ok.relays).some;
    ascend = All-map (λ g. Ascend g.1) (group_by offers) (sets_of offers) (All-weaker AreRelays (λ s. Ascend (ids_numbered (bits_of s) offers)) (λ s h. filter_ascends (λ o. bits_of s == bits_of o.1) offers ok.ascend) (sets_of offers) sets_relays);
    offer = All-map (λ g. (i : Id) → is_listed g.1 i ≡ true → relays_of offers i ≡ g.0) (group_by offers) (sets_of offers)
        (All-weaker AreRelays (λ s. (i : Id) → is_listed (ids_numbered (bits_of s) offers) i ≡ true → relays_of offers i ≡ s) (λ s h. offer_is offers ok s h) (sets_of offers) sets_relays);
    whole = All-map (λ g. (i : Id) → relays_of offers i ≡ g.0 → is_listed g.1 i ≡ true) (group_by offers) (sets_of offers)
        (All-weaker (λ s. 0 < length s) (λ s. (i : Id) → relays_of offers i ≡ s → is_listed (ids_numbered (bits_of s) offers) i ≡ true) (λ s h. is_offer offers ok s h) (sets_of offers) (All-sets_of (λ s. 0 < length s) offers ok.some));
    once = λ i. sum_map (λ (g : List ℕ × List Id). cond {A = ℕ} (is_listed g.1 i) 1 0) (group_by offers) (sets_of offers) ∙ once_is i;
    counts = λ test. counts_are test ∙ sym (sum_map (λ (g : List ℕ × List Id). cond (test g.0) (length g.1) 0) (group_by offers) (sets_of offers));
    total = sum_map (λ (g : List ℕ × List Id). length g.1) (group_by offers) (sets_of offers) ∙ sym (counts_are (λ _. true)) ∙ count_all offers;
  }
