-- More ids than a table takes: of two parts together, and of a part of all.
use Rattle.std.proofs.Common.{◌≡◌, ℕ, ◌+◌, ◌<◌, Bool, true, false, cond, List, [], ◌∷◌, ◌++◌, length, map, Some, refl, sym, ap, ◌∙◌, subst, arith, inl, inr}
use Rattle.std.specs.Prelude.{Contains, unwrap_or, is_some, not, nat_lt, MatchOption}
use Rattle.std.specs.List.{All, list_any}
use Rattle.std.proofs.lemmas.Bool.{cases_Bool, or_left, or_right, false≢true, ltb-true}
use Rattle.std.proofs.lemmas.List.{length-map, length-append}
use Rattle.std.proofs.lemmas.List.Elements.{All-head, All-tail, Contains-append_cases}
use Rattle.std.proofs.lemmas.List.Sums.{sum_by-cons}
use Rattle.std.proofs.lemmas.Option.{same_Some}
use Rattle.item_key.specs.declared.Id.{Id}
use Rattle.neg_codec.proofs.Stretches.{contains_head, contains_tail, contains_cases, contains_none}
use Rattle.neg_initiator.specs.Listed.{Distinct}
use Rattle.neg_initiator.proofs.Noting.{sorted_distinct}
use Rattle.sharing.specs.declared.TheConstants.{MOST_IDS}
use Rattle.sharing.specs.Sharing.{is_among}
use Rattle.sharing.specs.Offers.{IsOffers, is_id, beside, relays_of}
use Rattle.sharing.proofs.Orders.{id_total, among_head}
use Rattle.offer_table.specs.Table.{Table, new_in}
use Rattle.offer_table.specs.Faults.{merge_fault}
use Rattle.offer_table.specs.declared.faults.OfferFault.{OfferFault}
use Rattle.offer_table.specs.declared.faults.OfferFault.TheVariants as fault
use Rattle.mirror_core.specs.declared.end.End.{End}
use Rattle.mirror_core.specs.Tables.{needs_from, IsTableOf}
use Rattle.mirror_core.specs.Full.{IsNeeded, NeedTooMany}
use Rattle.mirror_core.proofs.Tables.{needs_append, merge_by, handed, same_fault}
use Rattle.mirror_core.proofs.Looks.{found, is_beside, what_is}
use Rattle.mirror_core.proofs.Headline.{needed, needed_of}

abbrev ids_of : List (Id × List ℕ) → List Id
ids_of offers = map (λ p. p.0) offers

-- two lists that have nothing in common
distinct_both : {X : Type 0} (xs ys : List X) → Distinct xs → Distinct ys → ((x : X) → Contains xs x → Contains ys x → ⊥) → Distinct (xs ++ ys)
distinct_both [] ys h k apart = k
distinct_both (x ∷ xs) ys h k apart = (
  λ m. elim (Contains-append_cases xs ys x m) [
    | inl a ↦ h.0 a
    | inr b ↦ apart x (contains_head x xs) b
  ],
  distinct_both xs ys h.1 k (λ y a b. apart y (contains_tail x xs y a) b),
)

-- the ids that the first offers lack
added : List (Id × List ℕ) → List (Id × List ℕ) → List Id
added front [] = []
added front (p ∷ ps) = cond (is_some (beside front p.0)) (added front ps) (p.0 ∷ added front ps)

added_count : (front back : List (Id × List ℕ)) → length (added front back) ≡ new_in front back
unfolding added
added_count front [] = refl
added_count front (p ∷ ps) =
    elim (cases_Bool (is_some (beside front p.0))) [
      | inl t ↦ omega (arith, added_count front ps, sum_by-cons (λ (p : Id × List ℕ). cond (not (is_some (beside front p.0))) 1 0) p ps, ap (λ b. length (cond b (added front ps) (p.0 ∷ added front ps))) t, ap {B = ℕ} (λ b. cond (not b) 1 0) t)
      | inr f ↦ omega (arith, added_count front ps, sum_by-cons (λ (p : Id × List ℕ). cond (not (is_some (beside front p.0))) 1 0) p ps, ap (λ b. length (cond b (added front ps) (p.0 ∷ added front ps))) f, ap {B = ℕ} (λ b. cond (not b) 1 0) f)
    ]

-- each of them is offered, and the first offers lack it
added_is : (front back : List (Id × List ℕ)) (i : Id) → Contains (added front back) i → Contains (ids_of back) i × (is_some (beside front i) ≡ false)
unfolding added
added_is front [] i h = absurd (contains_none i h)
added_is front (p ∷ ps) i h =
    elim (cases_Bool (is_some (beside front p.0))) [
      | inl t ↦
          (let rest = added_is front ps i (subst (λ b. Contains (cond b (added front ps) (p.0 ∷ added front ps)) i) t h) in
          (contains_tail p.0 (ids_of ps) i rest.0, rest.1))
      | inr f ↦ elim (contains_cases p.0 (added front ps) i (subst (λ b. Contains (cond b (added front ps) (p.0 ∷ added front ps)) i) f h)) [
        | inl e ↦ (subst (λ (j : Id). Contains (p.0 ∷ ids_of ps) j) e (contains_head p.0 (ids_of ps)), ap (λ j. is_some (beside front j)) (sym e) ∙ f)
        | inr m ↦ (let rest = added_is front ps i m in (contains_tail p.0 (ids_of ps) i rest.0, rest.1))
      ]
    ]

added_distinct : (front back : List (Id × List ℕ)) → Distinct (ids_of back) → Distinct (added front back)
unfolding added
added_distinct front [] h = tt
added_distinct front (p ∷ ps) h =
    elim (cases_Bool (is_some (beside front p.0))) [
      | inl t ↦ subst (λ b. Distinct (cond b (added front ps) (p.0 ∷ added front ps))) (sym t) (added_distinct front ps h.1)
      | inr f ↦ subst (λ b. Distinct (cond b (added front ps) (p.0 ∷ added front ps))) (sym f) (λ m. h.0 (added_is front ps p.0 m).0, added_distinct front ps h.1)
    ]

-- beside an offered id stands a relay
beside_some : (P : List ℕ → Type 0) (offers : List (Id × List ℕ)) (i : Id) (rs : List ℕ) → All (λ p. P p.1) offers → beside offers i ≡ Some rs → P rs
beside_some P [] i rs h e = absurd (cc)
beside_some P (p ∷ ps) i rs h e =
    elim (cases_Bool (is_id i p.0)) [
      | inl t ↦ subst P (same_Some _ _ (sym (ap (λ b. cond b (Some p.1) (beside ps i)) t) ∙ e)) (All-head (λ (p : Id × List ℕ). P p.1) p ps h)
      | inr f ↦ beside_some P ps i rs (All-tail (λ (p : Id × List ℕ). P p.1) p ps h) (sym (ap (λ b. cond b (Some p.1) (beside ps i)) f) ∙ e)
    ]

some_among : (rs : List ℕ) → 0 < length rs → (r : ℕ) × (is_among rs r ≡ true)
some_among [] h = absurd (omega arith)
some_among (r ∷ rs) h = (r, among_head r rs)

offered_by : (offers : List (Id × List ℕ)) (i : Id) → IsOffers offers → Contains (ids_of offers) i → (r : ℕ) × (is_among (relays_of offers i) r ≡ true)
offered_by offers i ok m =
    let b = what_is (beside offers i) (is_beside offers i ∙ found i (ids_of offers) m) in
    let one = some_among b.0 (beside_some (λ rs. 0 < length rs) offers i b.0 ok.some b.1) in
    (one.0, ap (λ o. is_among (unwrap_or o []) one.0) b.1 ∙ one.1)

-- what one of two parts needs is needed
needed_front : (es fs : List End) (i : Id) → (r : ℕ) → needs_from 0 es r i ≡ true → IsNeeded (es ++ fs) i
needed_front es fs i r h =
    let it = needed 0 (es ++ fs) r i (needs_append 0 es fs r i ∙ or_left (needs_from 0 es r i) (needs_from (0 + length es) fs r i) h) in
    (it.0, it.2.0, it.2.1, it.2.2)

needed_back : (es fs : List End) (i : Id) → (r : ℕ) → needs_from (0 + length es) fs r i ≡ true → IsNeeded (es ++ fs) i
needed_back es fs i r h =
    let it = needed 0 (es ++ fs) r i (needs_append 0 es fs r i ∙ or_right (needs_from 0 es r i) (needs_from (0 + length es) fs r i) h) in
    (it.0, it.2.0, it.2.1, it.2.2)

-- so are too many of a part too many of all
pub too_many_front : (es fs : List End) → NeedTooMany es → NeedTooMany (es ++ fs)
too_many_front es fs h = record {
  ids = h.ids;
  distinct = h.distinct;
  more = h.more;
  each = λ i m. let it = h.each i m in needed_front es fs i (0 + it.0) (needed_of 0 es it.0 it.1 i it.2 it.3);
}

pub too_many_back : (es fs : List End) → NeedTooMany fs → NeedTooMany (es ++ fs)
too_many_back es fs h = record {
  ids = h.ids;
  distinct = h.distinct;
  more = h.more;
  each = λ i m. let it = h.each i m in needed_back es fs i (0 + length es + it.0) (needed_of (0 + length es) fs it.0 it.1 i it.2 it.3);
}

-- the numbers don't matter: needed from some base on is needed
any_base : (base : ℕ) (es : List End) (i : Id) (r : ℕ) → needs_from base es r i ≡ true → IsNeeded es i
any_base base es i r h = let it = needed base es r i h in (it.0, it.2.0, it.2.1, it.2.2)

-- where two tables have too many ids together
pub too_many_both : (base : ℕ) (es fs : List End) (front back : Table) → IsTableOf base es front → IsTableOf (base + length es) fs back → MOST_IDS < length front.offers + new_in front.offers back.offers → NeedTooMany (es ++ fs)
too_many_both base es fs front back f b more = record {
  ids = ids_of front.offers ++ added front.offers back.offers;
  distinct = distinct_both (ids_of front.offers) (added front.offers back.offers) (sorted_distinct id_total (ids_of front.offers) f.table_ok.offers_ok.ascend)
      (added_distinct front.offers back.offers (sorted_distinct id_total (ids_of back.offers) b.table_ok.offers_ok.ascend))
      (λ i m n. false≢true (sym (added_is front.offers back.offers i n).1 ∙ is_beside front.offers i ∙ found i (ids_of front.offers) m));
  more = omega (arith, more, length-append (ids_of front.offers) (added front.offers back.offers), length-map front.offers (λ (p : Id × List ℕ). p.0), added_count front.offers back.offers);
  each = λ i m. elim (Contains-append_cases (ids_of front.offers) (added front.offers back.offers) i m) [
    | inl a ↦
        (let at = offered_by front.offers i f.table_ok.offers_ok a in
        any_base base (es ++ fs) i at.0 (needs_append base es fs at.0 i ∙ or_left (needs_from base es at.0 i) (needs_from (base + length es) fs at.0 i) (sym (f.offers i at.0) ∙ at.1)))
    | inr n ↦
        (let at = offered_by back.offers i b.table_ok.offers_ok (added_is front.offers back.offers i n).0 in
        any_base base (es ++ fs) i at.0 (needs_append base es fs at.0 i ∙ or_right (needs_from base es at.0 i) (needs_from (base + length es) fs at.0 i) (sym (b.offers i at.0) ∙ at.1)))
  ];
}

-- a merge answers TableFull only where there are too many
full_by : (full meets : Bool) (f : OfferFault) (m n a b : Table) → f ≡ fault.TableFull → MatchOption (merge_by full meets) (f ≡ fault.Memory) (λ g. handed f m n ≡ handed g a b) → full ≡ true
full_by true meets f m n a b is h = refl
full_by false true f m n a b is h = let e : fault.TableFull ≡ fault.Double = sym is ∙ same_fault f fault.Double m n a b h in absurd (cc)
full_by false false f m n a b is h = let e : fault.TableFull ≡ fault.Memory = sym is ∙ h in absurd (cc)

pub full_count : (front back : Table) (f : OfferFault) (m n : Table) → f ≡ fault.TableFull → MatchOption (merge_fault front back) (f ≡ fault.Memory) (λ g. handed f m n ≡ handed g front back) → MOST_IDS < length front.offers + new_in front.offers back.offers
full_count front back f m n is h =
    ltb-true MOST_IDS (length front.offers + new_in front.offers back.offers) (full_by (nat_lt MOST_IDS (length front.offers + new_in front.offers back.offers)) (list_any (is_among back.reported) front.reported) f m n front back is h)
