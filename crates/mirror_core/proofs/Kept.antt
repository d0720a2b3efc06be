-- What is kept of offers where relays stopped, id by id.
use Rattle.std.proofs.Common.{◌≡◌, ℕ, zero, suc, ◌+◌, ◌<◌, ◌≤◌, ◌&&◌, ◌==◌, not, true, false, Bool, cond, List, [], ◌∷◌, ◌++◌, length, map, take, get_or, All, refl, sym, ap, ◌∙◌, subst, arith, inl, inr, Some}
use Rattle.std.specs.Prelude.{unwrap_or}
use Rattle.std.proofs.lemmas.Bool.{false≢true, cases_Bool, and_parts, eq-eqb, or_left}
use Rattle.std.proofs.lemmas.List.{take_more, take_all}
use Rattle.item_key.specs.declared.Id.{Id}
use Rattle.sharing.specs.Sharing.{is_among}
use Rattle.sharing.specs.Offers.{is_id, beside, relays_of, Ascend, AreRelays, IsOffers}
use Rattle.mirror_core.specs.LeftOver.{KeepsRelays, IsLeftOver}

head_among : (x : ℕ) (xs : List ℕ) → is_among (x ∷ xs) x ≡ true
head_among x xs = or_left (x == x) (is_among xs x) (eq-eqb x x refl)

not_both : (b : Bool) → not b ≡ true → b ≡ true → ⊥
not_both true h k = false≢true h
not_both false h k = false≢true k

stopped_from : (a b : Bool) → a ≡ true → (a && not b) ≡ false → b ≡ true
stopped_from true true h k = refl
stopped_from true false h k = absurd (false≢true (sym k))
stopped_from false b h k = absurd (false≢true h)

kept_from : (b : Bool) → not b ≡ true → b ≡ false
kept_from true h = absurd (false≢true h)
kept_from false h = refl

some_kept : (stopped relays kept : List ℕ) → ((r : ℕ) → is_among kept r ≡ (is_among relays r && not (is_among stopped r))) → (kept ≡ [] → ⊥) → (s : ℕ) × (is_among kept s ≡ true) × (is_among stopped s ≡ false)
some_kept stopped relays [] member some = absurd (some refl)
some_kept stopped relays (x ∷ xs) member some =
    let t : is_among (x ∷ xs) x ≡ true = head_among x xs in
    (x, t, kept_from (is_among stopped x) (and_parts (is_among relays x) (not (is_among stopped x)) (sym (member x) ∙ t)).1)

-- those that didn't stop, where there are some
pub keeps_others : (stopped relays kept : List ℕ) → ((r : ℕ) → is_among kept r ≡ (is_among relays r && not (is_among stopped r))) → (kept ≡ [] → ⊥) → KeepsRelays stopped relays kept
keeps_others stopped relays kept member some = record {
  sound = λ r m. (and_parts (is_among relays r) (not (is_among stopped r)) (sym (member r) ∙ m)).0;
  last = λ r m gone s t. absurd (not_both (is_among stopped r) (and_parts (is_among relays r) (not (is_among stopped r)) (sym (member r) ∙ m)).1 gone);
  out = λ r m gone. (
      let other = some_kept stopped relays kept member some in
      (stopped_from (is_among relays r) (is_among stopped r) m (sym (member r) ∙ gone), other.0, other.1, other.2));
}

-- each id beside what is kept of its relays
abbrev pub EachKept : List ℕ → List (Id × List ℕ) → List (Id × List ℕ) → Type 0
EachKept stopped [] [] = Unit {0}
EachKept stopped [] (k ∷ ks) = ⊥
EachKept stopped (o ∷ os) [] = ⊥
EachKept stopped (o ∷ os) (k ∷ ks) = ((k.0 ≡ o.0) × KeepsRelays stopped o.1 k.1 × AreRelays k.1) × EachKept stopped os ks

pub each_more : (stopped : List ℕ) (os ks : List (Id × List ℕ)) (o k : Id × List ℕ) → EachKept stopped os ks → k.0 ≡ o.0 → KeepsRelays stopped o.1 k.1 → AreRelays k.1 → EachKept stopped (os ++ o ∷ []) (ks ++ k ∷ [])
each_more stopped [] [] o k h same keeps ok = ((same, keeps, ok), tt)
each_more stopped [] (b ∷ ks) o k h same keeps ok = absurd h
each_more stopped (a ∷ os) [] o k h same keeps ok = absurd h
each_more stopped (a ∷ os) (b ∷ ks) o k h same keeps ok = (h.0, each_more stopped os ks o k h.1 same keeps ok)

pub each_next : (stopped : List ℕ) (offers ks new : List (Id × List ℕ)) (n : ℕ) (o : Id × List ℕ) (kept : List ℕ) → n < length offers → o ≡ get_or offers n o
    → EachKept stopped (take n offers) ks → KeepsRelays stopped o.1 kept → AreRelays kept → new ≡ ks ++ (o.0, kept) ∷ [] → EachKept stopped (take (n + 1) offers) new
each_next stopped offers ks new n o kept lt is h keeps ok e =
    subst (λ os. EachKept stopped os new) (sym (take_more offers n o lt ∙ ap (λ x. take n offers ++ x ∷ []) (sym is)))
    (subst (λ l. EachKept stopped (take n offers ++ o ∷ []) l) (sym e) (each_more stopped (take n offers) ks o (o.0, kept) h refl keeps ok))

pub each_whole : (stopped : List ℕ) (offers ks : List (Id × List ℕ)) (n : ℕ) → length offers ≤ n → EachKept stopped (take n offers) ks → EachKept stopped offers ks
each_whole stopped offers ks n le h = subst (λ os. EachKept stopped os ks) (take_all n offers le) h

each_id : (stopped : List ℕ) (os ks : List (Id × List ℕ)) → EachKept stopped os ks → map (λ p. p.0) ks ≡ map (λ p. p.0) os
each_id stopped [] [] h = refl
each_id stopped [] (b ∷ ks) h = absurd h
each_id stopped (a ∷ os) [] h = absurd h
each_id stopped (a ∷ os) (b ∷ ks) h = ap (λ i. i ∷ map (λ p. p.0) ks) h.0.0 ∙ ap (λ is. a.0 ∷ is) (each_id stopped os ks h.1)

each_ordered : (stopped : List ℕ) (os ks : List (Id × List ℕ)) → EachKept stopped os ks → (k : ℕ) (d : Id × List ℕ) → k < length ks → AreRelays (get_or ks k d).1
each_ordered stopped [] [] h k d lt = absurd (omega (arith, lt))
each_ordered stopped [] (b ∷ ks) h k d lt = absurd h
each_ordered stopped (a ∷ os) [] h k d lt = absurd h
each_ordered stopped (a ∷ os) (b ∷ ks) h zero d lt = h.0.2
each_ordered stopped (a ∷ os) (b ∷ ks) h (suc k) d lt = each_ordered stopped os ks h.1 k d (omega (arith, lt))

some_left : (stopped relays kept : List ℕ) → KeepsRelays stopped relays kept → 0 < length relays → 0 < length kept
some_left stopped relays (x ∷ xs) h lt = omega arith
some_left stopped [] [] h lt = absurd (omega (arith, lt))
some_left stopped (x ∷ xs) [] h lt = absurd (false≢true (h.out x (head_among x xs) refl).2)

each_some : (stopped : List ℕ) (os ks : List (Id × List ℕ)) → EachKept stopped os ks → All (λ p. 0 < length p.1) os → (k : ℕ) (d : Id × List ℕ) → k < length ks → 0 < length (get_or ks k d).1
each_some stopped [] [] h some k d lt = absurd (omega (arith, lt))
each_some stopped [] (b ∷ ks) h some k d lt = absurd h
each_some stopped (a ∷ os) [] h some k d lt = absurd h
each_some stopped (a ∷ os) (b ∷ ks) h some zero d lt = some_left stopped a.1 b.1 h.0.1 (some zero d (omega arith))
each_some stopped (a ∷ os) (b ∷ ks) h some (suc k) d lt = each_some stopped os ks h.1 (λ j e below. some (suc j) e (omega (arith, below))) k d (omega (arith, lt))

pub kept_offers : (stopped : List ℕ) (os ks : List (Id × List ℕ)) → EachKept stopped os ks → IsOffers os → IsOffers ks
kept_offers stopped os ks h ok = record {
  ascend = subst Ascend (sym (each_id stopped os ks h)) ok.ascend;
  relays = each_ordered stopped os ks h;
  some = each_some stopped os ks h ok.some;
}

keeps_none : (stopped : List ℕ) → KeepsRelays stopped [] []
keeps_none stopped = record {
  sound = λ r m. m;
  last = λ r m gone s t. absurd (false≢true m);
  out = λ r m gone. absurd (false≢true m);
}

pub kept_of : (stopped : List ℕ) (os ks : List (Id × List ℕ)) → EachKept stopped os ks → (i : Id) → KeepsRelays stopped (relays_of os i) (relays_of ks i)
kept_of stopped [] [] h i = keeps_none stopped
kept_of stopped [] (b ∷ ks) h i = absurd h
kept_of stopped (a ∷ os) [] h i = absurd h
kept_of stopped (a ∷ os) (b ∷ ks) h i =
    let same : is_id i b.0 ≡ is_id i a.0 = ap (is_id i) h.0.0 in
    elim (cases_Bool (is_id i a.0)) [
      | inl t ↦ subst (λ o. KeepsRelays stopped (unwrap_or o []) (relays_of (b ∷ ks) i)) (sym (ap (λ c. cond c (Some a.1) (beside os i)) t))
          (subst (λ o. KeepsRelays stopped a.1 (unwrap_or o [])) (sym (ap (λ c. cond c (Some b.1) (beside ks i)) (same ∙ t))) h.0.1)
      | inr f ↦ subst (λ o. KeepsRelays stopped (unwrap_or o []) (relays_of (b ∷ ks) i)) (sym (ap (λ c. cond c (Some a.1) (beside os i)) f))
          (subst (λ o. KeepsRelays stopped (relays_of os i) (unwrap_or o [])) (sym (ap (λ c. cond c (Some b.1) (beside ks i)) (same ∙ f))) (kept_of stopped os ks h.1 i))
    ]

pub left_of_all : (stopped : List ℕ) (old offers ks new : List (Id × List ℕ)) → EachKept stopped offers ks → offers ≡ old → new ≡ ks → IsOffers old → IsLeftOver stopped old new
left_of_all stopped old offers ks new h e f ok =
    let g : EachKept stopped old new = subst (λ l. EachKept stopped old l) (sym f) (subst (λ os. EachKept stopped os ks) e h) in
    record { ordered = kept_offers stopped old new g ok; each = kept_of stopped old new g }
