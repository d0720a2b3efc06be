-- The offers of a text, line by line.
use Rattle.std.proofs.Common.{if◌then◌else◌, ◌≡◌, ℕ, ◌-◌, ◌<◌, ◌≤◌, ◌==◌, ◌||◌, Bool, true, false, List, [], ◌∷◌, ◌++◌, length, map, inl, inr, refl, sym, ap, ◌∙◌, subst, arith}
use Rattle.std.specs.Ordering.{nat_cmp, is_lt}
use Rattle.std.specs.declared.cmp.Ordering.{Ordering}
use Rattle.std.specs.declared.cmp.Ordering.TheVariants.{Less, Equal, Greater}
use Rattle.std.specs.List.Sorted.{IsStrictlySortedBy}
use Rattle.std.proofs.lemmas.Bool.{cases_eq, eq-eqb, ne_eqb, false≢true}
use Rattle.std.specs.List.{All}
use Rattle.std.proofs.lemmas.List.{map-append}
use Rattle.std.proofs.lemmas.List.Elements.{All-push, All-weaker, All-cons, All-head, All-tail, All-nil, All-map}
use Rattle.std.proofs.lemmas.List.Folds.{list_any-append}
use Rattle.item_key.specs.declared.Id.{Id}
use Rattle.sharing.specs.declared.TheConstants.{RELAYS}
use Rattle.sharing.specs.Bases.{base_of, base_in}
use Rattle.sharing.specs.Sharing.{is_among}
use Rattle.sharing.specs.Offers.{AreRelays, Ascend, IsOffers, id_cmp}
use Rattle.sharing.proofs.Orders.{same_sorted, sorted_push, less_from, head_sorted, tail_sorted, id_total}
use Rattle.plan_check.specs.File.{File, AreBasesInOrder}
use Rattle.plan_check.specs.TextLines.{lines_of, ended}
use Rattle.plan_check.specs.PlanText.{header_line, plan_lines, IsOffer}
use Rattle.plan_check.specs.PlanParts.{IsTail}
use Rattle.plan_check.proofs.FormLemmas.{based, offered, plan_lines-is}
use Rattle.plan_check.proofs.Given.{base_here, base_elsewhere}
use Rattle.plan_check.proofs.TextLemmas.{text_by_lines}
use Rattle.plan_check.proofs.WriteLemmas.{text_split, split_front}
use Rattle.plan_run.specs.Planned.{IsFront}

or_swap : (a b : Bool) → (a || b) ≡ (b || (a || false))
or_swap true true = refl
or_swap true false = refl
or_swap false true = refl
or_swap false false = refl

-- a relay above all others is the last
pub with_last : (relays new : List ℕ) (r n : ℕ) → AreRelays relays → AreRelays new → All (λ x. x < n) relays → n ≤ r → ((q : ℕ) → is_among new q ≡ ((q == r) || is_among relays q)) → new ≡ relays ++ r ∷ []
with_last relays new r n old ok below le members =
    same_sorted new (relays ++ r ∷ []) ok.ascend
    (sorted_push nat_cmp relays r old.ascend (All-weaker (λ x. x < n) (λ x. nat_cmp x r ≡ Less) (λ x lt. less_from x r (omega arith)) relays below))
    (λ q. members q ∙ or_swap (q == r) (is_among relays q) ∙ sym (list_any-append (λ x. q == x) relays (r ∷ [])))

-- an id behind the last of ids in order is behind all
pub behind_last : (xs : List Id) (l x : Id) → Ascend (xs ++ l ∷ []) → id_cmp l x ≡ Less → All (λ y. id_cmp y x ≡ Less) (xs ++ l ∷ [])
behind_last [] l x s less = All-cons (λ y. id_cmp y x ≡ Less) l [] less (All-nil (λ y. id_cmp y x ≡ Less))
behind_last (y ∷ ys) l x s less =
    let rest : All (λ y. id_cmp y x ≡ Less) (ys ++ l ∷ []) = behind_last ys l x (tail_sorted id_cmp y (ys ++ l ∷ []) s) less in
    All-cons (λ y. id_cmp y x ≡ Less) y (ys ++ l ∷ []) (id_total.trans y l x (last_above y ys l (head_sorted id_cmp y (ys ++ l ∷ []) s)) less) rest
  where
    last_above : (y : Id) (ys : List Id) (l : Id) → All (λ z. id_cmp y z ≡ Less) (ys ++ l ∷ []) → id_cmp y l ≡ Less
    last_above y [] l h = All-head (λ z. id_cmp y z ≡ Less) l [] h
    last_above y (z ∷ zs) l h = last_above y zs l (All-tail (λ z. id_cmp y z ≡ Less) z (zs ++ l ∷ []) h)

-- the last of offers in order
pub ids_push : (offers front : List (Id × List ℕ)) (last : Id × List ℕ) (id : Id) → Ascend (map (λ o. o.0) offers) → offers ≡ front ++ last ∷ [] → id_cmp last.0 id ≡ Less → Ascend (map (λ o. o.0) offers ++ id ∷ [])
ids_push offers front last id s is less =
    let first : Id × List ℕ → Id = λ o. o.0 in
    let cut : map first offers ≡ map first front ++ last.0 ∷ [] = ap (map first) is ∙ map-append first front (last ∷ []) in
    sorted_push id_cmp (map first offers) id s (subst (All (λ y. id_cmp y id ≡ Less)) (sym cut) (behind_last (map first front) last.0 id (subst Ascend cut s) less))

pub first_id : (offers : List (Id × List ℕ)) (id : Id) → length offers ≡ 0 → Ascend (map (λ o. o.0) offers) → Ascend (map (λ o. o.0) offers ++ id ∷ [])
first_id [] id none s = sorted_push id_cmp [] id s (All-nil (λ y. id_cmp y id ≡ Less))
first_id (o ∷ os) id none s = absurd (omega arith)

pub less_of : (o : Ordering) → is_lt o ≡ true → o ≡ Less
less_of Less h = refl
less_of Equal h = absurd (false≢true h)
less_of Greater h = absurd (false≢true h)

-- one offer more
pub offers_push : (offers : List (Id × List ℕ)) (o : Id × List ℕ) → IsOffers offers → Ascend (map (λ o. o.0) offers ++ o.0 ∷ []) → AreRelays o.1 → 0 < length o.1 → IsOffers (offers ++ o ∷ [])
offers_push offers o is ascend relays some = record {
  ascend = subst Ascend (sym (map-append (λ (o : Id × List ℕ). o.0) offers (o ∷ []))) ascend;
  relays = All-push (λ p. AreRelays p.1) offers o is.relays relays;
  some = All-push (λ p. 0 < length p.1) offers o is.some some;
}

-- one base more
pub bases_more : (pairs : List (ℕ × ℕ)) (b : ℕ × ℕ) (old new : List ℕ) → All (λ a. a.0 < b.0) pairs → ((r : ℕ) → base_of old r ≡ base_in pairs r) → ((r : ℕ) → base_of new r ≡ (if r == b.0 then b.1 else base_of old r))
    → (r : ℕ) → base_of new r ≡ base_in (pairs ++ b ∷ []) r
bases_more pairs b old new below same set r =
    elim (cases_eq r b.0) [
      | inl is ↦ set r ∙ ap (λ t. if t then b.1 else base_of old r) (eq-eqb r b.0 is) ∙ sym (base_here pairs b r below is)
      | inr other ↦ set r ∙ ap (λ t. if t then b.1 else base_of old r) (ne_eqb r b.0 other) ∙ same r ∙ sym (base_elsewhere pairs b r other)
    ]

pub ascend_more : (pairs : List (ℕ × ℕ)) (b : ℕ × ℕ) → All (λ a. a.0 < b.0) pairs → IsStrictlySortedBy nat_cmp (map (λ a. a.0) pairs) → IsStrictlySortedBy nat_cmp (map (λ a. a.0) (pairs ++ b ∷ []))
ascend_more pairs b below s =
    let first : ℕ × ℕ → ℕ = λ a. a.0 in
    let less : All (λ (a : ℕ × ℕ). nat_cmp a.0 b.0 ≡ Less) pairs = All-weaker (λ (a : ℕ × ℕ). a.0 < b.0) (λ (a : ℕ × ℕ). nat_cmp a.0 b.0 ≡ Less) (λ a lt. less_from a.0 b.0 lt) pairs below in
    subst (IsStrictlySortedBy nat_cmp) (sym (map-append first pairs (b ∷ []))) (sorted_push nat_cmp (map first pairs) b.0 s (All-map (λ x. nat_cmp x b.0 ≡ Less) first pairs less))

-- the front of a text whose tail is that of a file
pub front_is : (text rest : List ℕ) (base : ℕ → ℕ) (bases : List (ℕ × ℕ)) (offers : List (Id × List ℕ)) → lines_of text ≡ ended (header_line bases) ∷ (map based bases ++ (map offered offers ++ lines_of rest))
    → AreBasesInOrder bases → ((r : ℕ) → base r ≡ base_in bases r) → All IsOffer offers → IsOffers offers → IsTail (lines_of rest) → IsFront text base offers (length text - length rest)
front_is text rest base bases offers whole ordered same form ok tail =
    let relays : All (λ g. g.1 < RELAYS) tail.gives = λ k d lt. (tail.form k d lt).relay in
    let file : File = record { bases = bases; offers = offers; gives = tail.gives; group = tail.group } in
    let all : lines_of text ≡ plan_lines file = whole ∙ ap (λ t. ended (header_line bases) ∷ (map based bases ++ (map offered offers ++ t))) tail.told ∙ sym (plan_lines-is file) in
    let split = text_split text rest bases offers whole in
    record {
      file = file;
      told = record {
        form = record { bases = ordered.each; offers = form; gives = tail.form; group = tail.relays.small };
        ordered = record { bases_ok = ordered; offers_ok = ok; ascend = tail.ascend; relays = relays; group_ok = tail.relays };
        is = text_by_lines text file all;
      };
      bases_are = same;
      offers_are = refl;
      front = split_front text _ rest split;
      within = omega arith;
    }
