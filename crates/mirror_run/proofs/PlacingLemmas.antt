-- Which items are placed, as a set tells.
use Rattle.std.proofs.Common.{◌≡◌, ◌≢◌, ℕ, zero, suc, ◌+◌, ◌-◌, ◌^◌, ◌<◌, ◌≤◌, inl, inr, Bool, true, false, ◌||◌, cond, List, [], ◌∷◌, ◌++◌, length, take, get_or, refl, ap, sym, ◌∙◌, subst, arith, length-append, Result, Ok, Err, All}
use Rattle.std.specs.Prelude.{Contains}
use Rattle.std.specs.List.{list_any}
use Rattle.std.specs.declared.cmp.Ordering.{Ordering}
use Rattle.std.specs.declared.cmp.Ordering.TheVariants.{Less, Equal, Greater}
use Rattle.std.specs.Ordering.{nat_cmp, ordering_then, eq_by_cmp, is_eq}
use Rattle.std.specs.Cmp.{IsTotalOrder}
use Rattle.std.specs.Cmp.Lexicographic.{slice_cmp}
use Rattle.std.proofs.lemmas.Cmp.{eq_by_cmp_equiv}
use Rattle.std.proofs.lemmas.List.{take_more, length-take-le, get_or_default}
use Rattle.std.proofs.lemmas.List.Elements.{All-push, All-contains, All-from_get_or, Contains-get_or, Contains-push_cases, Contains-append_right}
use Rattle.std.proofs.lemmas.Bool.{cases_lt}
use Rattle.std.proofs.lemmas.Option.{slice_get-get_or}
use Rattle.std.proofs.lemmas.List.Folds.{list_any-append}
use Rattle.std.proofs.lemmas.Map.Lookups.{CmpEqualImpliesEq, exact_unsigned, exact_bytes}
use Rattle.std.proofs.lemmas.Map.Views.{Contains-from_any, list_any-from_Contains}
use Rattle.item_key.specs.declared.Item.{Item}
use Rattle.item_key.specs.Keys.{endless, least}
use Rattle.item_key.specs.contracts.ItemOrd.TheImpl as item_ord
use Rattle.item_key.specs.contracts.ItemOrd.TheImpl.Laws as item_laws
use Rattle.neg_initiator.specs.Listed.{Distinct}
use Rattle.item_roll.specs.declared.roll.RollFault.{RollFault}
use Rattle.item_roll.specs.declared.roll.RollFault.TheVariants.{Infinity, Present as Repeated, Full as Crowded, Memory}
use Rattle.item_roll.specs.Repeats.{HasRepeat, HasEndless}
use Rattle.mirror_run.specs.Placing.{IsTaken, IsFirstRefused}
use Rattle.mirror_run.specs.declared.refusal.LineFault.TheVariants.{Present, Full}

-- the order of a set of items
abbrev pub order : Item → Item → Ordering
order = (item_ord.ghosts).cmp

total : IsTotalOrder order
total = item_laws.total-law

then_equal : (o p : Ordering) → ordering_then o p ≡ Equal → (o ≡ Equal) × (p ≡ Equal)
then_equal Less p e = cc
then_equal Equal p e = (refl, e)
then_equal Greater p e = cc

-- only an item itself is its equal
exact : CmpEqualImpliesEq order
exact x y e =
    let parts = then_equal (nat_cmp x.time y.time) (slice_cmp nat_cmp x.id.0 y.id.0) e in
    ap (λ (t : ℕ). record { time = t; id = x.id }) (exact_unsigned x.time y.time parts.0)
    ∙ ap (λ (b : List ℕ). record { time = y.time; id = record { 0 = b } }) (exact_bytes x.id.0 y.id.0 parts.1)

abbrev same : Item → Item → Bool
same = eq_by_cmp order

is_equal : (o : Ordering) → is_eq o ≡ true → o ≡ Equal
is_equal Less e = cc
is_equal Equal e = refl
is_equal Greater e = cc

same_is : (x y : Item) → same x y ≡ true → x ≡ y
same_is x y e = exact x y (is_equal (order x y) e)

or_of : (b w : Bool) → cond b true w ≡ (w || (b || false))
or_of true true = refl
or_of true false = refl
or_of false true = refl
or_of false false = refl

-- the set after one item more
pub members_more : (q d : Item) (items : List Item) (i : ℕ) (was now : Bool) → i < length items → now ≡ cond (is_eq (order (get_or items i d) q)) true was
    → was ≡ list_any (eq_by_cmp order q) (take i items) → now ≡ list_any (eq_by_cmp order q) (take (i + 1) items)
members_more q d items i was now within more so_far =
    let item = get_or items i d in
    let flipped : is_eq (order item q) ≡ eq_by_cmp order q item = (eq_by_cmp_equiv total).symm item q in
    let left : now ≡ (list_any (eq_by_cmp order q) (take i items) || (eq_by_cmp order q item || false)) =
    more ∙ or_of (is_eq (order item q)) was ∙ ap (λ b. b || (is_eq (order item q) || false)) so_far ∙ ap (λ b. list_any (eq_by_cmp order q) (take i items) || (b || false)) flipped in
    left ∙ sym (list_any-append (eq_by_cmp order q) (take i items) (item ∷ [])) ∙ ap (list_any (eq_by_cmp order q)) (sym (take_more items i d within))

stands : (items : List Item) (i : ℕ) (d : Item) → list_any (eq_by_cmp order (get_or items i d)) (take i items) ≡ false → Contains (take i items) (get_or items i d) → ⊥
stands items i d off on = let e = list_any-from_Contains (eq_by_cmp_equiv total) (get_or items i d) (take i items) on in cc

-- the item stands among those before it
pub refused_present : (items : List Item) (i : ℕ) (d : Item) → i < length items → (get_or items i d).time ≢ endless
    → list_any (eq_by_cmp order (get_or items i d)) (take i items) ≡ true → IsTaken (take i items) → IsFirstRefused items i Present
refused_present items i d within finite found taken = record {
  item = get_or items i d;
  here = slice_get-get_or items i d within;
  before = taken;
  refused = (finite, Contains-from_any same_is (get_or items i d) (take i items) found);
}

-- there are enough items before it
pub refused_full : (items : List Item) (i : ℕ) (d : Item) → i < length items → (get_or items i d).time ≢ endless
    → list_any (eq_by_cmp order (get_or items i d)) (take i items) ≡ false → 1000000 ≤ i → IsTaken (take i items) → IsFirstRefused items i Full
refused_full items i d within finite found many taken = record {
  item = get_or items i d;
  here = slice_get-get_or items i d within;
  before = taken;
  refused = (finite, stands items i d found, omega (arith, length-take-le i items (omega arith), taken.few));
}

distinct_push : (xs : List Item) (y : Item) → Distinct xs → ¬ Contains xs y → Distinct (xs ++ y ∷ [])
distinct_push [] y apart new = (new, tt)
distinct_push (x ∷ xs) y apart new = (
  λ on. elim (Contains-push_cases xs y x on) [
    | inl among ↦ apart.0 among
    | inr last ↦ new (0, omega arith, sym last)
  ],
  distinct_push xs y apart.1 (λ on. new (Contains-append_right (x ∷ []) xs y on)),
)

-- one item more is taken
pub taken_more : (items : List Item) (i : ℕ) (d : Item) → i < length items → (get_or items i d).time < endless
    → list_any (eq_by_cmp order (get_or items i d)) (take i items) ≡ false → i < 1000000 → IsTaken (take i items) → IsTaken (take (i + 1) items)
taken_more items i d within finite found few taken =
    let P : List Item → Type 0 = λ t. IsTaken t in
    let item = get_or items i d in
    let len : length (take i items ++ item ∷ []) ≡ length (take i items) + 1 = length-append (take i items) (item ∷ []) in
    subst P (sym (take_more items i d within)) (record {
      finite = All-push (λ k. k.time < endless) (take i items) item taken.finite finite;
      distinct = distinct_push (take i items) item taken.distinct (stands items i d found);
      few = omega (arith, len, length-take-le i items (omega arith));
    })

distinct_apart : (items : List Item) (i j : ℕ) (d : Item) → Distinct items → i < j → j < length items → get_or items i d ≡ get_or items j d → ⊥
distinct_apart [] i j d apart less within same = omega arith
distinct_apart (x ∷ xs) zero zero d apart less within same = omega arith
distinct_apart (x ∷ xs) zero (suc j) d apart less within same =
    apart.0 (j, omega arith, get_or_default xs j x d (omega arith) ∙ sym same)
distinct_apart (x ∷ xs) (suc i) zero d apart less within same = omega arith
distinct_apart (x ∷ xs) (suc i) (suc j) d apart less within same = distinct_apart xs i j d apart.1 (omega arith) (omega arith) same

-- items that are taken make a roll
pub taken_finite : (items : List Item) → HasEndless items → IsTaken items → ⊥
taken_finite items h taken =
    let small = All-contains (λ k. k.time < 2 ^ 64 - 1) items h.item taken.finite h.stands in omega (arith, h.endless, small)

pub taken_distinct : (items : List Item) → HasRepeat items → IsTaken items → ⊥
taken_distinct items h taken = distinct_apart items h.first h.second least taken.distinct h.apart h.within (h.same least)

distinct_from : (items : List Item) → (HasRepeat items → ⊥) → Distinct items
distinct_from [] single = tt
distinct_from (x ∷ xs) single = (
  λ on. single (record {
    first = 0;
    second = suc on.0;
    apart = omega arith;
    within = omega (arith, on.1);
    same = λ d. sym on.2 ∙ get_or_default xs on.0 x d on.1;
  }),
  distinct_from xs (λ more. single (record {
    first = suc more.first;
    second = suc more.second;
    apart = omega (arith, more.apart);
    within = omega (arith, more.within);
    same = λ d. more.same d;
  })),
)

finite_from : (items : List Item) → (HasEndless items → ⊥) → All (λ k. k.time < endless) items
finite_from items finite = All-from_get_or (λ k. k.time < endless) items least (λ i within. elim (cases_lt (get_or items i least).time endless) [
  | inl below ↦ below
  | inr above ↦ absurd (finite (record { item = get_or items i least; stands = Contains-get_or items i least within; endless = above }))
])

-- a roll's items are taken
pub taken_from_ok : (items roll : List Item) (r : Result (List Item) RollFault) → r ≡ Ok roll
    → (HasEndless items → r ≡ Err Infinity)
    → ((r ≢ Err Memory) × All (λ k. k.time < endless) items × HasRepeat items → r ≡ Err Repeated)
    → ((r ≢ Err Memory) × All (λ k. k.time < endless) items × (HasRepeat items → ⊥) × (1000000 < length items) → r ≡ Err Crowded)
    → IsTaken items
taken_from_ok items roll r ok at_infinity at_repeat at_many =
    let finite = finite_from items (λ h. let e = at_infinity h in cc) in
    let single : HasRepeat items → ⊥ = λ h. let e = at_repeat ((λ m. cc), finite, h) in cc in
    record {
      finite = finite;
      distinct = distinct_from items single;
      few = elim (cases_lt 1000000 (length items)) [
        | inl many ↦ let e = at_many ((λ m. cc), finite, single, many) in absurd (cc)
        | inr few ↦ few
      ];
    }
