-- Two lists of offers, walked side by side.
use Rattle.std.proofs.Common.{◌≡◌, ℕ, ◌+◌, ◌<◌, ◌≤◌, ◌||◌, ◌&&◌, not, Bool, true, false, cond, List, [], ◌∷◌, ◌++◌, length, map, Some, None, refl, sym, ap, ◌∙◌, subst, arith, inl, inr}
use Rattle.std.specs.Prelude.{is_some, unwrap_or}
use Rattle.std.specs.declared.cmp.Ordering.TheVariants.{Less}
use Rattle.std.specs.List.{All, list_any}
use Rattle.std.specs.List.Sorted.{IsStrictlySortedBy}
use Rattle.std.proofs.lemmas.Bool.{false≢true, cases_Bool}
use Rattle.std.proofs.lemmas.List.{map-append, length-append}
use Rattle.std.proofs.lemmas.List.Folds.{list_any-append}
use Rattle.std.proofs.lemmas.List.Sums.{sum_by-cons}
use Rattle.std.proofs.lemmas.List.Elements.{All-head, All-tail, All-nil, All-cons, All-push, All-map, All-weaker}
use Rattle.item_key.specs.declared.Id.{Id}
use Rattle.sharing.specs.Sharing.{is_among}
use Rattle.sharing.specs.Offers.{AreRelays, Ascend, IsOffers, id_cmp, is_id, beside, relays_of}
use Rattle.sharing.proofs.Orders.{id_total, same_id, id_itself, id_apart, id_flips, head_sorted, tail_sorted, sorted_push, among_head, All-unmap}
use Rattle.offer_table.specs.declared.combined.Keep.{Keep}
use Rattle.offer_table.specs.declared.combined.Keep.TheVariants.{Either, FirstAlone}
use Rattle.offer_table.specs.Table.{new_in}
use Rattle.offer_table.specs.Combined.{keeps, most_kept, IsTaken, IsNextId, IsPushed}
use Rattle.offer_table.proofs.Runs.{Offers, id_of}

abbrev pub PairsBehind : Id → Offers → Type 0
PairsBehind k vs = All (λ v. id_cmp k v.0 ≡ Less) vs

-- whether some pair has this id and this relay
abbrev pub held : Offers → Id → ℕ → Bool
held os i r = list_any (λ o. is_id i o.0 && is_among o.1 r) os

or_false : (b : Bool) → (b || false) ≡ b
or_false true = refl
or_false false = refl

and_false : (b : Bool) → (b && false) ≡ false
and_false true = refl
and_false false = refl

none_behind : (vs : Offers) (k : Id) → PairsBehind k vs → beside vs k ≡ None
none_behind [] k h = refl
none_behind (v ∷ vs) k h =
    ap (λ b. cond b (Some v.1) (beside vs k)) (id_flips v.0 k (id_apart k v.0 (All-head (λ v. id_cmp k v.0 ≡ Less) v vs h)))
    ∙ none_behind vs k (All-tail (λ v. id_cmp k v.0 ≡ Less) v vs h)

held_behind : (vs : Offers) (k : Id) (r : ℕ) → PairsBehind k vs → held vs k r ≡ false
held_behind [] k r h = refl
held_behind (v ∷ vs) k r h =
    ap (λ b. (b && is_among v.1 r) || held vs k r) (id_flips v.0 k (id_apart k v.0 (All-head (λ v. id_cmp k v.0 ≡ Less) v vs h)))
    ∙ held_behind vs k r (All-tail (λ v. id_cmp k v.0 ≡ Less) v vs h)

pub behind_ids : (o : Id × List ℕ) (os : Offers) → Ascend (map id_of (o ∷ os)) → PairsBehind o.0 os
behind_ids o os h = All-unmap (λ i. id_cmp o.0 i ≡ Less) id_of os (head_sorted id_cmp o.0 (map id_of os) h)

-- an id before the first is before all
pub behind_first : (k : Id) (o : Id × List ℕ) (os : Offers) → id_cmp k o.0 ≡ Less → Ascend (map id_of (o ∷ os)) → PairsBehind k (o ∷ os)
behind_first k o os less h =
    All-cons (λ v. id_cmp k v.0 ≡ Less) o os less (All-weaker (λ v. id_cmp o.0 v.0 ≡ Less) (λ v. id_cmp k v.0 ≡ Less) (λ v e. id_total.trans k o.0 v.0 less e) os (behind_ids o os h))

-- in ids in order that is what stands beside the id
pub held_is : (os : Offers) (i : Id) (r : ℕ) → Ascend (map id_of os) → held os i r ≡ is_among (relays_of os i) r
held_is [] i r h = refl
held_is (o ∷ os) i r h =
    elim (cases_Bool (is_id i o.0)) [
      | inl t ↦
          (let gone : held os i r ≡ false = ap (λ j. held os j r) (same_id i o.0 t) ∙ held_behind os o.0 r (behind_ids o os h) in
          ap (λ b. (b && is_among o.1 r) || held os i r) t ∙ ap (λ b. is_among o.1 r || b) gone ∙ or_false (is_among o.1 r)
          ∙ sym (ap (λ b. is_among (unwrap_or (cond b (Some o.1) (beside os i)) []) r) t))
      | inr f ↦
          ap (λ b. (b && is_among o.1 r) || held os i r) f ∙ held_is os i r (tail_sorted id_cmp o.0 (map id_of os) h)
          ∙ sym (ap (λ b. is_among (unwrap_or (cond b (Some o.1) (beside os i)) []) r) f)
    ]

-- how many ids two lists have together
abbrev pub total : Offers → Offers → ℕ
total a b = length a + new_in a b

abbrev pub is_new : Offers → Id → ℕ
is_new mine k = cond (not (is_some (beside mine k))) 1 0

new_beyond : (k : Id) (s : List ℕ) (os xs : Offers) → PairsBehind k xs → new_in ((k, s) ∷ os) xs ≡ new_in os xs
new_beyond k s os [] h = refl
new_beyond k s os (x ∷ xs) h =
    omega (
      arith,
      new_beyond k s os xs (All-tail (λ v. id_cmp k v.0 ≡ Less) x xs h),
      sum_by-cons (λ (p : Id × List ℕ). is_new ((k, s) ∷ os) p.0) x xs,
      sum_by-cons (λ (p : Id × List ℕ). is_new os p.0) x xs,
      ap {B = ℕ} (λ b. cond (not (is_some (cond b (Some s) (beside os x.0)))) 1 0) (id_apart k x.0 (All-head (λ v. id_cmp k v.0 ≡ Less) x xs h)),
    )

new_more : (k : Id) (t : List ℕ) (mine os : Offers) → new_in mine ((k, t) ∷ os) ≡ is_new mine k + new_in mine os
new_more k t mine os = sum_by-cons (λ (p : Id × List ℕ). is_new mine p.0) (k, t) os

pub new_in_few : (mine theirs : Offers) → new_in mine theirs ≤ length theirs
new_in_few mine [] = omega arith
new_in_few mine (x ∷ xs) = omega (arith, new_in_few mine xs, new_more x.0 x.1 mine xs, small (not (is_some (beside mine x.0))))
  where
    small : (b : Bool) → cond {A = ℕ} b 1 0 ≤ 1
    small true = omega arith
    small false = omega arith

module _ (a b : Offers) (k : Id) (s t : List ℕ) (ms ts : Offers) (h : IsNextId a b k s t ms ts) where
  -- the least id is one of them
  pub total_step : total a b ≡ 1 + total ms ts
  total_step =
      elim h.first [
        | inl e ↦
            (let mine : new_in a ts ≡ new_in ms ts = ap (λ (os : Offers). new_in os ts) e ∙ new_beyond k s ms ts h.behind_theirs in
            let long : length a ≡ 1 + length ms = omega (arith, ap length e) in
            elim h.second [
              | inl g ↦
                  (let old : is_new a k ≡ 0 = ap {B = ℕ} (λ (os : Offers). is_new os k) e ∙ ap {B = ℕ} (λ b. cond (not (is_some (cond b (Some s) (beside ms k)))) 1 0) (id_itself k) in
                  omega (arith, mine, long, ap (new_in a) g, new_more k t a ts, old))
              | inr g ↦ omega (arith, mine, long, ap (new_in a) g.1)
            ])
        | inr e ↦ elim h.second [
          | inl g ↦
              (let new : is_new a k ≡ 1 = ap {B = ℕ} (λ (os : Offers). is_new os k) e.1 ∙ ap {B = ℕ} (λ o. cond (not (is_some o)) 1 0) (none_behind ms k h.behind_mine) in
              omega (arith, ap length e.1, ap (new_in a) g, new_more k t a ts, new, ap (λ (os : Offers). new_in os ts) e.1))
          | inr g ↦ elim h.some [
            | inl m ↦ absurd (let long : length a ≡ 1 + length ms = omega (arith, ap length m) in omega (arith, long, ap length e.1))
            | inr m ↦ absurd (let long : length b ≡ 1 + length ts = omega (arith, ap length m) in omega (arith, long, ap length g.1))
          ]
        ]
      ]

  few_taken : (old new : Offers) (u : List ℕ) → IsTaken k old u new → length new ≤ length old
  few_taken old new u e = elim e [ inl e ↦ omega (arith, ap length e) | inr e ↦ omega (arith, ap length e.1) ]

  -- as many are kept at most, and one less where one is kept
  pub few_left : (keep : Keep) → most_kept keep ms ts ≤ most_kept keep a b
  few_left Either = omega (arith, total_step)
  few_left FirstAlone = few_taken a ms s h.first

  pub few_pushed : (keep : Keep) (u : List ℕ) → ((r : ℕ) → is_among u r ≡ keeps keep (is_among s r) (is_among t r)) → 0 < length u → 1 + most_kept keep ms ts ≤ most_kept keep a b
  few_pushed Either u member some = omega (arith, total_step)
  few_pushed FirstAlone [] member some = absurd (omega arith)
  few_pushed FirstAlone (x ∷ xs) member some =
      elim h.first [
        | inl e ↦ omega (arith, ap length e)
        | inr e ↦ absurd (false≢true (sym (ap (λ zs. is_among zs x && not (is_among t x)) e.0) ∙ sym (member x) ∙ among_head x xs))
      ]

-- all has what left the two lists
pub record Joining (keep : Keep) (mine theirs all a b : Offers) : Type 0 where
  pub member : (i : Id) (r : ℕ) → (held all i r || keeps keep (held a i r) (held b i r)) ≡ keeps keep (held mine i r) (held theirs i r)
  pub few : length all + most_kept keep a b ≤ most_kept keep mine theirs
  pub before_mine : All (λ p. PairsBehind p.0 a) all
  pub before_theirs : All (λ p. PairsBehind p.0 b) all
  pub offers : IsOffers all
  pub first : Ascend (map id_of a)
  pub second : Ascend (map id_of b)

pub no_offers : IsOffers []
unfolding IsStrictlySortedBy
no_offers = record { ascend = tt; relays = All-nil (λ (p : Id × List ℕ). AreRelays p.1); some = All-nil (λ (p : Id × List ℕ). 0 < length p.1) }

pub joining_none : (keep : Keep) (mine theirs : Offers) → Ascend (map id_of mine) → Ascend (map id_of theirs) → Joining keep mine theirs [] mine theirs
joining_none keep mine theirs h g = record {
  member = λ i r. refl;
  few = omega arith;
  before_mine = All-nil (λ p. PairsBehind p.0 mine);
  before_theirs = All-nil (λ p. PairsBehind p.0 theirs);
  offers = no_offers;
  first = h;
  second = g;
}

keeps_none : (keep : Keep) → keeps keep false false ≡ false
keeps_none Either = refl
keeps_none FirstAlone = refl

taken_held : (k : Id) (old : Offers) (s : List ℕ) (new : Offers) → IsTaken k old s new → (i : Id) (r : ℕ) → held old i r ≡ ((is_id i k && is_among s r) || held new i r)
taken_held k old s new t i r =
    elim t [
      | inl e ↦ ap (λ (os : Offers). held os i r) e
      | inr e ↦ ap (λ (os : Offers). held os i r) e.1 ∙ sym (ap (λ xs. (is_id i k && is_among xs r) || held new i r) e.0 ∙ ap (λ b. b || held new i r) (and_false (is_id i k)))
    ]

pub taken_ascends : (k : Id) (old : Offers) (s : List ℕ) (new : Offers) → IsTaken k old s new → Ascend (map id_of old) → Ascend (map id_of new)
taken_ascends k old s new t h =
    elim t [
      | inl e ↦ tail_sorted id_cmp k (map id_of new) (subst (λ (os : Offers). Ascend (map id_of os)) e h)
      | inr e ↦ subst (λ (os : Offers). Ascend (map id_of os)) e.1 h
    ]

follow : (all : Offers) (k : Id) (old : Offers) (s : List ℕ) (new : Offers) → IsTaken k old s new → All (λ p. PairsBehind p.0 old) all → All (λ p. PairsBehind p.0 new) all
follow all k old s new t g =
    elim t [
      | inl e ↦ All-weaker (λ p. PairsBehind p.0 ((k, s) ∷ new)) (λ p. PairsBehind p.0 new) (λ p h. All-tail (λ v. id_cmp p.0 v.0 ≡ Less) (k, s) new h) all (subst (λ (os : Offers). All (λ p. PairsBehind p.0 os) all) e g)
      | inr e ↦ subst (λ (os : Offers). All (λ p. PairsBehind p.0 os) all) e.1 g
    ]

ahead : (all : Offers) (k : Id) (old : Offers) (s : List ℕ) (new : Offers) → old ≡ (k, s) ∷ new → All (λ p. PairsBehind p.0 old) all → All (λ p. id_cmp p.0 k ≡ Less) all
ahead all k old s new e g =
    All-weaker (λ p. PairsBehind p.0 ((k, s) ∷ new)) (λ p. id_cmp p.0 k ≡ Less) (λ p h. All-head (λ v. id_cmp p.0 v.0 ≡ Less) (k, s) new h) all (subst (λ (os : Offers). All (λ p. PairsBehind p.0 os) all) e g)

module _ (keep : Keep) (mine theirs all a b : Offers) (k : Id) (s t u : List ℕ) (ms ts : Offers) (j : Joining keep mine theirs all a b) (h : IsNextId a b k s t ms ts)
    (member : (r : ℕ) → is_among u r ≡ keeps keep (is_among s r) (is_among t r)) where
  -- what the next list holds
  step : (new : Bool) (i : Id) (r : ℕ) → new ≡ (held all i r || (is_id i k && is_among u r)) → (new || keeps keep (held ms i r) (held ts i r)) ≡ keeps keep (held mine i r) (held theirs i r)
  step new i r is =
      ap (λ c. c || keeps keep (held ms i r) (held ts i r)) is
      ∙ elim (cases_Bool (is_id i k)) [
        | inl y ↦
            (let e : i ≡ k = same_id i k y in
            let no_mine : held ms i r ≡ false = ap (λ i. held ms i r) e ∙ held_behind ms k r h.behind_mine in
            let no_theirs : held ts i r ≡ false = ap (λ i. held ts i r) e ∙ held_behind ts k r h.behind_theirs in
            let here : held a i r ≡ is_among s r = taken_held k a s ms h.first i r ∙ ap (λ c. (c && is_among s r) || held ms i r) y ∙ ap (λ c. is_among s r || c) no_mine ∙ or_false (is_among s r) in
            let there : held b i r ≡ is_among t r = taken_held k b t ts h.second i r ∙ ap (λ c. (c && is_among t r) || held ts i r) y ∙ ap (λ c. is_among t r || c) no_theirs ∙ or_false (is_among t r) in
            ap (λ c. (held all i r || (c && is_among u r)) || keeps keep (held ms i r) (held ts i r)) y
            ∙ ap (λ c. (held all i r || is_among u r) || keeps keep c (held ts i r)) no_mine
            ∙ ap (λ c. (held all i r || is_among u r) || keeps keep false c) no_theirs
            ∙ ap (λ c. (held all i r || is_among u r) || c) (keeps_none keep)
            ∙ or_false (held all i r || is_among u r)
            ∙ ap (λ c. held all i r || c) (member r)
            ∙ sym (ap (λ c. held all i r || keeps keep c (held b i r)) here ∙ ap (λ c. held all i r || keeps keep (is_among s r) c) there)
            ∙ j.member i r)
        | inr n ↦
            (let here : held a i r ≡ held ms i r = taken_held k a s ms h.first i r ∙ ap (λ c. (c && is_among s r) || held ms i r) n in
            let there : held b i r ≡ held ts i r = taken_held k b t ts h.second i r ∙ ap (λ c. (c && is_among t r) || held ts i r) n in
            ap (λ c. (held all i r || (c && is_among u r)) || keeps keep (held ms i r) (held ts i r)) n
            ∙ ap (λ c. c || keeps keep (held ms i r) (held ts i r)) (or_false (held all i r))
            ∙ sym (ap (λ c. held all i r || keeps keep c (held b i r)) here ∙ ap (λ c. held all i r || keeps keep (held ms i r) c) there)
            ∙ j.member i r)
      ]

  first : Ascend (map id_of ms)
  first = taken_ascends k a s ms h.first j.first

  second : Ascend (map id_of ts)
  second = taken_ascends k b t ts h.second j.second

  -- nothing is kept of the id
  pub joining_skip : u ≡ [] → Joining keep mine theirs all ms ts
  joining_skip e = record {
    member = λ i r. step (held all i r) i r (sym (ap (λ xs. held all i r || (is_id i k && is_among xs r)) e ∙ ap (λ c. held all i r || c) (and_false (is_id i k)) ∙ or_false (held all i r)));
    few = omega (arith, j.few, few_left a b k s t ms ts h keep);
    before_mine = follow all k a s ms h.first j.before_mine;
    before_theirs = follow all k b t ts h.second j.before_theirs;
    offers = j.offers;
    first = first;
    second = second;
  }

  pub joining_push : 0 < length u → AreRelays u → Joining keep mine theirs (all ++ (k, u) ∷ []) ms ts
  joining_push some relays =
      let before : All (λ p. id_cmp p.0 k ≡ Less) all = elim h.some [
        | inl e ↦ ahead all k a s ms e j.before_mine
        | inr e ↦ ahead all k b t ts e j.before_theirs
      ] in
      record {
        member = λ i r. step (held (all ++ (k, u) ∷ []) i r) i r (list_any-append (λ (p : Id × List ℕ). is_id i p.0 && is_among p.1 r) all ((k, u) ∷ []) ∙ ap (λ c. held all i r || c) (or_false (is_id i k && is_among u r)));
        few = omega (arith, j.few, few_pushed a b k s t ms ts h keep u member some, length-append all ((k, u) ∷ []));
        before_mine = All-push (λ p. PairsBehind p.0 ms) all (k, u) (follow all k a s ms h.first j.before_mine) h.behind_mine;
        before_theirs = All-push (λ p. PairsBehind p.0 ts) all (k, u) (follow all k b t ts h.second j.before_theirs) h.behind_theirs;
        offers = record {
          ascend = subst Ascend (sym (map-append id_of all ((k, u) ∷ []))) (sorted_push id_cmp (map id_of all) k j.offers.ascend (All-map (λ i. id_cmp i k ≡ Less) id_of all before));
          relays = All-push (λ p. AreRelays p.1) all (k, u) j.offers.relays relays;
          some = All-push (λ p. 0 < length p.1) all (k, u) j.offers.some some;
        };
        first = first;
        second = second;
      }

-- the next list, in either case
pub joining_step : (keep : Keep) (mine theirs all a b : Offers) (k : Id) (s t u : List ℕ) (ms ts new : Offers) → Joining keep mine theirs all a b → IsNextId a b k s t ms ts
    → ((r : ℕ) → is_among u r ≡ keeps keep (is_among s r) (is_among t r)) → AreRelays u → IsPushed all k u new → Joining keep mine theirs new ms ts
joining_step keep mine theirs all a b k s t u ms ts new j h member relays pushed =
    elim pushed [
      | inl none ↦ subst (λ (xs : Offers). Joining keep mine theirs xs ms ts) (sym none.1) (joining_skip keep mine theirs all a b k s t u ms ts j h member none.0)
      | inr some ↦ subst (λ (xs : Offers). Joining keep mine theirs xs ms ts) (sym some.1) (joining_push keep mine theirs all a b k s t u ms ts j h member some.0 relays)
    ]

-- the least id, where one list has it
pub least_alone : (first : Id × List ℕ) (more mine theirs : Offers) (e : List ℕ) → mine ≡ first ∷ more → Ascend (map id_of mine) → PairsBehind first.0 theirs → e ≡ [] → IsNextId mine theirs first.0 first.1 e more theirs
least_alone first more mine theirs e is ordered behind none = record {
  first = inl is;
  second = inr (none, refl);
  behind_mine = behind_ids first more (subst (λ (xs : Offers). Ascend (map id_of xs)) is ordered);
  behind_theirs = behind;
  some = inl is;
}

pub least_second : (second : Id × List ℕ) (rest mine theirs : Offers) (e : List ℕ) → theirs ≡ second ∷ rest → Ascend (map id_of theirs) → PairsBehind second.0 mine → e ≡ [] → IsNextId mine theirs second.0 e second.1 mine rest
least_second second rest mine theirs e is ordered behind none = record {
  first = inr (none, refl);
  second = inl is;
  behind_mine = behind;
  behind_theirs = behind_ids second rest (subst (λ (xs : Offers). Ascend (map id_of xs)) is ordered);
  some = inr is;
}

-- and where both have it
pub least_both : (first second : Id × List ℕ) (more rest mine theirs : Offers) → mine ≡ first ∷ more → theirs ≡ second ∷ rest → Ascend (map id_of mine) → Ascend (map id_of theirs) → first.0 ≡ second.0 → IsNextId mine theirs first.0 first.1 second.1 more rest
least_both first second more rest mine theirs is are ordered others same =
    let led : theirs ≡ (first.0, second.1) ∷ rest = are ∙ ap (λ (k : Id). (k, second.1) ∷ rest) (sym same) in
    record {
      first = inl is;
      second = inl led;
      behind_mine = behind_ids first more (subst (λ (xs : Offers). Ascend (map id_of xs)) is ordered);
      behind_theirs = subst (λ (k : Id). PairsBehind k rest) (sym same) (behind_ids second rest (subst (λ (xs : Offers). Ascend (map id_of xs)) are others));
      some = inl is;
    }

pub behind_none : (k : Id) (os : Offers) → os ≡ [] → PairsBehind k os
behind_none k os e = subst (PairsBehind k) (sym e) (All-nil (λ v. id_cmp k v.0 ≡ Less))

pub behind_all : (k : Id) (o : Id × List ℕ) (os all : Offers) → all ≡ o ∷ os → id_cmp k o.0 ≡ Less → Ascend (map id_of all) → PairsBehind k all
behind_all k o os all e less h = subst (PairsBehind k) (sym e) (behind_first k o os less (subst (λ (xs : Offers). Ascend (map id_of xs)) e h))

pub empty : (os : Offers) → length os ≡ 0 → os ≡ []
empty [] h = refl
empty (o ∷ os) h = absurd (omega (arith, h))

pub some_from : (s : List ℕ) → (s ≡ [] → ⊥) → 0 < length s
some_from [] h = absurd (h refl)
some_from (x ∷ xs) h = omega arith

-- nothing is left
pub joined_member : (keep : Keep) (mine theirs all : Offers) → Ascend (map id_of mine) → Ascend (map id_of theirs) → Joining keep mine theirs all [] [] → (i : Id) (r : ℕ) → is_among (relays_of all i) r ≡ keeps keep (is_among (relays_of mine i) r) (is_among (relays_of theirs i) r)
joined_member keep mine theirs all hm ht j i r =
    sym (held_is all i r j.offers.ascend) ∙ sym (or_false (held all i r)) ∙ sym (ap (λ c. held all i r || c) (keeps_none keep)) ∙ j.member i r
    ∙ ap (λ c. keeps keep c (held theirs i r)) (held_is mine i r hm) ∙ ap (keeps keep (is_among (relays_of mine i) r)) (held_is theirs i r ht)
