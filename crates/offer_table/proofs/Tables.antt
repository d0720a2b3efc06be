-- Tables of offers: one offer is struck, or all are one relay's.
use Rattle.std.proofs.Common.{◌≡◌, ℕ, ◌+◌, ◌<◌, ◌≤◌, ◌==◌, ◌||◌, ◌&&◌, not, Bool, true, false, cond, List, [], ◌∷◌, length, map, replicate, Some, None, refl, sym, ap, ◌∙◌, arith, inl, inr}
use Rattle.std.specs.Prelude.{unwrap_or, nat_lt}
use Rattle.std.specs.declared.cmp.Ordering.{Ordering}
use Rattle.std.specs.List.{All, list_any}
use Rattle.std.specs.List.Sorted.{IsStrictlySortedBy}
use Rattle.std.proofs.lemmas.Bool.{cases_Bool, cases_lt, false≢true, eqb-true, and_parts, and_left}
use Rattle.std.proofs.lemmas.List.Elements.{All-cons, All-nil}
use Rattle.std.proofs.lemmas.List.{get_or-replicate, get_or_past, length-replicate}
use Rattle.item_key.specs.declared.Id.{Id}
use Rattle.sharing.specs.Sharing.{is_among}
use Rattle.sharing.specs.Offers.{id_cmp, is_id, AreRelays, relays_of}
use Rattle.sharing.proofs.Orders.{same_id, id_itself, id_flips}
use Rattle.sharing.specs.Bases.{AreBases, base_of}
use Rattle.sharing.specs.declared.TheConstants.{MOST_IDS}
use Rattle.offer_table.specs.Table.{Table, IsTable, new_in}
use Rattle.offer_table.specs.Faults.{merge_fault}
use Rattle.offer_table.specs.declared.faults.OfferFault.TheVariants.{TableFull, Double}

pub some_member : (relays : List ℕ) (r : ℕ) → is_among relays r ≡ true → 0 < length relays
some_member [] r h = absurd (false≢true h)
some_member (x ∷ xs) r h = omega arith

and_true : (b : Bool) → (b && true) ≡ b
and_true true = refl
and_true false = refl

-- where the offer isn't there, nothing is taken away
pub strike_none : (xs : List (Id × List ℕ)) (k : Id) (q : ℕ) → is_among (relays_of xs k) q ≡ false → (i : Id) (r : ℕ) → is_among (relays_of xs i) r ≡ (is_among (relays_of xs i) r && not (is_id k i && (r == q)))
strike_none xs k q none i r =
    elim (cases_Bool (is_id k i && (r == q))) [
      | inl t ↦
          (let parts : (is_id k i ≡ true) × ((r == q) ≡ true) = and_parts (is_id k i) (r == q) t in
          let gone : is_among (relays_of xs i) r ≡ false = ap (λ j. is_among (relays_of xs j) r) (sym (same_id k i parts.0)) ∙ ap (is_among (relays_of xs k)) (eqb-true r q parts.1) ∙ none in
          gone ∙ sym (and_left (is_among (relays_of xs i) r) (not (is_id k i && (r == q))) gone))
      | inr f ↦ sym (ap (λ b. is_among (relays_of xs i) r && not b) f ∙ and_true (is_among (relays_of xs i) r))
    ]

-- each of these ids with these relays
abbrev pub each_with : List ℕ → List Id → List (Id × List ℕ)
each_with relays ids = map (λ i. (i, relays)) ids

pub ids-each_with : (relays : List ℕ) (ids : List Id) → map (λ p. p.0) (each_with relays ids) ≡ ids
ids-each_with relays [] = refl
ids-each_with relays (i ∷ is) = ap (λ js. i ∷ js) (ids-each_with relays is)

pub All-each_with : (P : List ℕ → Type 0) (relays : List ℕ) (ids : List Id) → P relays → All (λ p. P p.1) (each_with relays ids)
All-each_with P relays [] h = All-nil (λ p. P p.1)
All-each_with P relays (i ∷ is) h = All-cons (λ p. P p.1) (i, relays) (each_with relays is) h (All-each_with P relays is h)

pub length-each_with : (relays : List ℕ) (ids : List Id) → length (each_with relays ids) ≡ length ids
length-each_with relays [] = refl
length-each_with relays (i ∷ is) = omega (arith, length-each_with relays is)

none_sorted : {K : Type 0} (c : K → K → Ordering) → IsStrictlySortedBy c []
unfolding IsStrictlySortedBy
none_sorted c = tt

-- no offers
pub none_ok : (reported : List ℕ) → IsTable (record { reported = reported; offers = [] })
none_ok reported = record {
  offers_ok = record { ascend = none_sorted id_cmp; relays = All-nil (λ (p : Id × List ℕ). AreRelays p.1); some = All-nil (λ (p : Id × List ℕ). 0 < length p.1) };
  few = omega arith;
}

-- no bases
abbrev pub none_of : ℕ → List ℕ
none_of n = replicate n 0

none_long : (n : ℕ) → length (none_of n) ≡ n
none_long n = length-replicate n 0

pub zeros : (n r : ℕ) → base_of (none_of n) r ≡ 0
zeros n r = elim (cases_lt r n) [ inl lt ↦ get_or-replicate n r 0 0 lt | inr ge ↦ get_or_past (none_of n) r 0 (omega (arith, none_long n)) ]

pub no_bases : AreBases (none_of 256)
no_bases = record { long = none_long 256; small = λ r. omega (arith, zeros 256 r) }

one_sorted : {K : Type 0} (c : K → K → Ordering) (k : K) → IsStrictlySortedBy c (k ∷ [])
unfolding IsStrictlySortedBy
one_sorted c k = (tt, tt)

pub one_ascends : (k : Id) → IsStrictlySortedBy id_cmp (k ∷ [])
one_ascends k = one_sorted id_cmp k

-- one offer taken away
pub strike_one : (k i : Id) (q r : ℕ) → is_among (relays_of ((k, q ∷ []) ∷ []) i) r ≡ (is_id k i && (r == q))
strike_one k i q r =
    elim (cases_Bool (is_id i k)) [
      | inl t ↦ ap (λ b. is_among (unwrap_or (cond b (Some (q ∷ [])) None) []) r) t ∙ or_false (r == q) ∙ sym (ap (λ b. b && (r == q)) (ap (λ j. is_id j i) (sym (same_id i k t)) ∙ id_itself i))
      | inr f ↦ ap (λ b. is_among (unwrap_or (cond b (Some (q ∷ [])) None) []) r) f ∙ sym (ap (λ b. b && (r == q)) (id_flips i k f))
    ]
  where
    or_false : (b : Bool) → (b || false) ≡ b
    or_false true = refl
    or_false false = refl

not_less : (m n : ℕ) → n ≤ m → nat_lt m n ≡ false
not_less m n le = grind arith

-- two tables that can be put together
pub no_fault : (a b : Table) → length a.offers + new_in a.offers b.offers ≤ MOST_IDS → list_any (is_among b.reported) a.reported ≡ false → merge_fault a b ≡ None
no_fault a b few apart =
    ap (λ t. cond t (Some TableFull) (cond (list_any (is_among b.reported) a.reported) (Some Double) None)) (not_less MOST_IDS (length a.offers + new_in a.offers b.offers) few)
    ∙ ap (λ t. cond t (Some Double) None) apart
