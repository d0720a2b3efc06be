-- Ids in lists of events, and the places where they stand.
use Rattle.std.proofs.Common.{◌≡◌, ◌≢◌, ℕ, zero, suc, ◌+◌, ◌<◌, Bool, true, false, true≢false, ◌||◌, List, [], ◌∷◌, ◌++◌, length, get_or, refl, ap, sym, subst, arith, ◌∙◌, Option, None, Some}
use Rattle.std.specs.Prelude.{is_some, bytes_eq, if◌then◌else◌}
use Rattle.std.proofs.lemmas.List.Folds.{list_any_at, list_any-append}
use Rattle.std.proofs.lemmas.List.Quantifiers.{all_pairs_push}
use Rattle.std.proofs.lemmas.Slice.Eq.{bytes_eq-Decides}
use mathlib.Core.List.{IsPrefix}
use Rattle.item_key.specs.declared.Id.{Id}
use Rattle.nostr_event.specs.EventView.{EventView}
use Rattle.event_table.specs.Events.{has_id, place_from, DistinctIds}

same_bytes : (xs : List ℕ) → bytes_eq xs xs ≡ true
same_bytes xs = (bytes_eq-Decides xs xs).1 refl

abbrev pub id_of : List ℕ → Id
id_of bytes = record { 0 = bytes }

pub one_id : (x y : Id) → x.0 ≡ y.0 → x ≡ y
one_id x y same = ap id_of same

-- ---- whether an id is there

has_at : (b : Bool) (n : ℕ) (o : Option ℕ) (h : Bool) → is_some o ≡ h → is_some (if b then Some n else o) ≡ (b || h)
has_at true n o h e = refl
has_at false n o h e = e

-- an id is there just where it has a place
pub has_place : (n : ℕ) (id : Id) (events : List EventView) → is_some (place_from n id events) ≡ has_id id events
has_place n id [] = refl
has_place n id (e ∷ events) = has_at (bytes_eq e.id.0 id.0) n (place_from (n + 1) id events) (has_id id events) (has_place (n + 1) id events)

or_true : (b : Bool) → (b || (true || false)) ≡ true
or_true true = refl
or_true false = refl

-- a list that ends with an event has its id
pub has_last : (front now old : List EventView) (e : EventView) (id : Id) → front ≡ now → now ≡ old ++ e ∷ [] → id ≡ e.id → has_id id front ≡ true
has_last front now old e id same ends named =
    let there : has_id e.id (old ++ e ∷ []) ≡ true = list_any-append (λ (y : EventView). bytes_eq y.id.0 e.id.0) old (e ∷ []) ∙ (ap (λ (b : Bool). has_id e.id old || (b || false)) (same_bytes e.id.0) ∙ or_true (has_id e.id old)) in
    (λ i. has_id (named i) ((same ∙ ends) i)) ∙ there

-- ---- one more event

lacked_at : (id : Id) (events : List EventView) → has_id id events ≡ false → (k : ℕ) (d : EventView) → k < length events → (get_or events k d).id ≢ id
lacked_at id events none k d within same =
    true≢false (sym (list_any_at (λ (x : EventView). bytes_eq x.id.0 id.0) events k d within ((bytes_eq-Decides _ _).1 (ap (λ (i : Id). i.0) same))) ∙ none)

pub distinct_push : (events : List EventView) (e : EventView) → DistinctIds events → has_id e.id events ≡ false → DistinctIds (events ++ e ∷ [])
distinct_push events e h none = all_pairs_push (λ (x y : EventView). x.id ≢ y.id) events e h (lacked_at e.id events none)

or_false : (a b : Bool) → (a || b) ≡ false → (a ≡ false) × (b ≡ false)
or_false true b h = absurd (true≢false h)
or_false false b h = (refl, h)

-- x is the id of an event before, e of the new one, and id the one looked for
push_at : (bx be : Bool) (n m : ℕ) (o p : Option ℕ) → (bx ≡ true → be ≡ false) → p ≡ (if be then Some m else o)
    → (if bx then Some n else p) ≡ (if be then Some m else (if bx then Some n else o))
push_at true true n m o p apart is = absurd (true≢false (apart refl))
push_at true false n m o p apart is = refl
push_at false true n m o p apart is = is
push_at false false n m o p apart is = is

apart_at : (x e id : List ℕ) → bytes_eq x e ≡ false → (b : Bool) → bytes_eq e id ≡ b → bytes_eq x id ≡ true → b ≡ false
apart_at x e id other false is same = refl
apart_at x e id other true is same =
    let one : x ≡ e = (bytes_eq-Decides x id).0 same ∙ sym ((bytes_eq-Decides e id).0 is) in
    absurd (true≢false (sym ((bytes_eq-Decides x e).1 one) ∙ other))

-- the new event stands behind all others
pub place_push : (n m : ℕ) (id : Id) (e : EventView) (events : List EventView) → m ≡ n + length events → has_id e.id events ≡ false
    → place_from n id (events ++ e ∷ []) ≡ (if bytes_eq e.id.0 id.0 then Some m else place_from n id events)
place_push n m id e [] is none =
    let same : m ≡ n = omega (arith, is) in
    ap (λ k. if bytes_eq e.id.0 id.0 then Some k else None) (sym same)
place_push n m id e (x ∷ events) is none =
    let parts = or_false (bytes_eq x.id.0 e.id.0) (has_id e.id events) none in
    push_at (bytes_eq x.id.0 id.0) (bytes_eq e.id.0 id.0) n m (place_from (n + 1) id events) (place_from (n + 1) id (events ++ e ∷ []))
    (apart_at x.id.0 e.id.0 id.0 parts.0 (bytes_eq e.id.0 id.0) refl)
    (place_push (n + 1) m id e events (omega (arith, is)) parts.1)

-- ---- the places of events

-- each event stands where its id is found
pub place_at : (n m : ℕ) (events : List EventView) (i : ℕ) (d : EventView) → DistinctIds events → i < length events → m ≡ n + i → place_from n (get_or events i d).id events ≡ Some m
place_at n m [] i d apart lt is = absurd (omega arith)
place_at n m (e ∷ events) zero d apart lt is =
    let same : n ≡ m = omega (arith, is) in
    rw (same_bytes e.id.0) (ap Some same)
place_at n m (e ∷ events) (suc i) d apart lt is =
    let other : bytes_eq e.id.0 (get_or events i d).id.0 ≡ false = not_same e.id (get_or events i d).id (apart 0 (suc i) d (omega arith) lt) (bytes_eq e.id.0 (get_or events i d).id.0) refl in
    rw other (place_at (n + 1) m events i d (λ j k f jk lk. apart (suc j) (suc k) f (omega (arith, jk)) (omega (arith, lk))) (omega (arith, lt)) (omega (arith, is)))
  where
    not_same : (x y : Id) → x ≢ y → (b : Bool) → bytes_eq x.0 y.0 ≡ b → b ≡ false
    not_same x y differ false is = refl
    not_same x y differ true is = absurd (differ (one_id x y ((bytes_eq-Decides x.0 y.0).0 is)))

within_at : (b : Bool) (n m p : ℕ) (o : Option ℕ) → (if b then Some n else o) ≡ Some p → n < m → (o ≡ Some p → p < m) → p < m
within_at true n m p o is lt later = subst (λ k. k < m) (cc is) lt
within_at false n m p o is lt later = later is

pub place_within : (n m p : ℕ) (id : Id) (events : List EventView) → place_from n id events ≡ Some p → m ≡ n + length events → p < m
place_within n m p id [] is len = absurd (cc is)
place_within n m p id (e ∷ events) is len =
    within_at (bytes_eq e.id.0 id.0) n m p (place_from (n + 1) id events) is (omega (arith, len)) (λ later. place_within (n + 1) m p id events later (omega (arith, len)))

-- a longer list has each id
pub has_longer : (id : Id) (xs ys : List EventView) → IsPrefix xs ys → has_id id xs ≡ true → has_id id ys ≡ true
has_longer id xs ys p h = ap (has_id id) (sym p.1) ∙ (list_any-append (λ (y : EventView). bytes_eq y.id.0 id.0) xs p.0 ∙ ap (λ (b : Bool). b || has_id id p.0) h)
