-- What finds the events of a store, with more of them.
use Rattle.std.proofs.Common.{◌≡◌, ℕ, ◌+◌, ◌≤◌, inl, inr, ltb, leb, true, false, List, [], ◌∷◌, ◌++◌, length, map, None, Some, Option, ap, sym, subst, arith, append_assoc, length-append, ◌∙◌}
use Rattle.std.specs.Prelude.{All, IsPermutation, filter, bytes_eq, if◌then◌else◌}
use Rattle.std.proofs.lemmas.Bool.{cases_lt, lt-ltb, le-ltb, le-leb, lt-leb}
use Rattle.std.proofs.lemmas.List.{length-map, take_all, take-append-le}
use Rattle.std.proofs.lemmas.List.Elements.{All-head, All-tail}
use Rattle.std.proofs.lemmas.List.Sorted.{length_permutation, IsPermutation-refl, IsPermutation-cons, IsPermutation-sym, IsPermutation-trans, IsPermutation-append_left, IsPermutation-to_front}
use mathlib.Core.List.{IsPrefix}
use Rattle.item_key.specs.declared.Id.{Id}
use Rattle.item_key.specs.declared.Item.{Item}
use Rattle.item_key.specs.Keys.{place, least, infinity, IsKey}
use Rattle.neg_codec.proofs.Stretches.{key_below}
use Rattle.nostr_event.specs.EventView.{EventView, item_of}
use Rattle.item_roll.specs.Parts.{is_between, part}
use Rattle.id_map.specs.declared.map.IdMap.{IdMap}
use Rattle.id_map.specs.Places.{place_of, SetsPlace}
use Rattle.newest.specs.Newest.{AreOf}
use Rattle.event_table.specs.Events.{has_id}
use Rattle.event_index.specs.Postings.{Covered, Covers}
use Rattle.event_table.specs.States.{IsListing, IsState, IsRolled}
use Rattle.event_table.proofs.Ids.{distinct_push, place_push}
use Rattle.event_table.proofs.Indexed.{indexed_whole}

least_below : (k : Item) → place least ≤ place k
unfolding place
least_below k = omega arith

moved_past : (xs ys : List Item) (x : Item) → IsPermutation (x ∷ (xs ++ ys)) (xs ++ x ∷ ys)
moved_past xs ys x =
    subst (λ (zs : List Item). IsPermutation (x ∷ (xs ++ ys)) zs) (append_assoc xs (x ∷ []) ys)
    (IsPermutation-append_left ys (x ∷ xs) (xs ++ x ∷ []) (IsPermutation-sym (xs ++ x ∷ []) (x ∷ xs) (IsPermutation-to_front xs x)))

-- the items below another, then those above
cut_in_two : (k : Item) (items : List Item) → All IsKey items → IsPermutation items (part items least k ++ part items k infinity)
unfolding part
cut_in_two k [] keys = IsPermutation-refl []
cut_in_two k (x ∷ items) keys =
    let front = filter (is_between least k) items in
    let back = filter (is_between k infinity) items in
    let rest : IsPermutation items (front ++ back) = cut_in_two k items (All-tail IsKey x items keys) in
    let a : leb (place least) (place x) ≡ true = le-leb _ _ (least_below x) in
    elim (cases_lt (place x) (place k)) [
      | inl low ↦
          let b : ltb (place x) (place k) ≡ true = lt-ltb _ _ low in
          let c : leb (place k) (place x) ≡ false = lt-leb _ _ low in
          rw (a, b, c) (IsPermutation-cons x items (front ++ back) rest)
      | inr high ↦
          let b : ltb (place x) (place k) ≡ false = le-ltb _ _ high in
          let c : leb (place k) (place x) ≡ true = le-leb _ _ high in
          let d : ltb (place x) (place infinity) ≡ true = lt-ltb _ _ (key_below x (All-head IsKey x items keys)) in
          rw (a, b, c, d) (IsPermutation-trans (x ∷ items) (x ∷ (front ++ back)) (front ++ x ∷ back) (IsPermutation-cons x items (front ++ back) rest) (moved_past front back x))
    ]

pub item_push : (all roll : List Item) (k : Item) → All IsKey roll → IsPermutation all roll → IsPermutation (all ++ k ∷ []) (part roll least k ++ k ∷ part roll k infinity)
item_push all roll k keys moved =
    let front = part roll least k in
    let back = part roll k infinity in
    let first : IsPermutation (k ∷ all) (k ∷ (front ++ back)) = IsPermutation-cons k all (front ++ back) (IsPermutation-trans all roll (front ++ back) moved (cut_in_two k roll keys)) in
    IsPermutation-trans (all ++ k ∷ []) (k ∷ all) (front ++ k ∷ back) (IsPermutation-to_front all k)
    (IsPermutation-trans (k ∷ all) (k ∷ (front ++ back)) (front ++ k ∷ back) first (moved_past front back k))

-- ---- a roll of the first events

pub rolled_whole : (events : List EventView) (roll : List Item) → IsPermutation (map item_of events) roll → IsRolled events roll
rolled_whole events roll moved =
    let len : length roll ≡ length events = length_permutation (map item_of events) roll moved ∙ length-map events item_of in
    record {
      within = omega (arith, len);
      items = subst (λ (xs : List EventView). IsPermutation (map item_of xs) roll) (sym (take_all (length roll) events (omega (arith, len)))) moved;
    }

pub whole_rolled : (events : List EventView) (roll : List Item) → IsRolled events roll → length roll ≡ length events → IsPermutation (map item_of events) roll
whole_rolled events roll h len = subst (λ (xs : List EventView). IsPermutation (map item_of xs) roll) (take_all (length roll) events (omega (arith, len))) h.items

-- events behind the others aren't among those that the roll has
pub rolled_more : (events more : List EventView) (roll : List Item) → IsPrefix events more → IsRolled events roll → IsRolled more roll
rolled_more events more roll p h = subst (λ (xs : List EventView). IsRolled xs roll) p.1 (record {
  within = omega (arith, h.within, length-append events p.0);
  items = subst (λ (xs : List EventView). IsPermutation (map item_of xs) roll) (sym (take-append-le (length roll) events p.0 h.within)) h.items;
})

-- ---- what finds the events

pub nothing_stands : (events : List EventView) (roll : List Item) (index : Covered) → events ≡ [] → IsPermutation [] roll → Covers [] index → IsState events roll index
nothing_stands events roll index is moved covers = subst (λ (xs : List EventView). IsState xs roll index) (sym is) (record {
  rolled = rolled_whole [] roll moved;
  indexed = indexed_whole [] index covers;
})

pub nothing_listed : (events : List EventView) (ids : IdMap) (newest : List (ℕ × EventView)) → events ≡ [] → ((id : Id) → place_of ids id ≡ None) → newest ≡ [] → IsListing events ids newest
nothing_listed events ids newest is none empty = subst (λ (xs : List EventView). IsListing xs ids newest) (sym is) (record {
  distinct = λ i j d lt within. absurd (omega arith);
  finds = none;
  ordered = subst (λ (xs : List (ℕ × EventView)). AreOf [] xs) (sym empty) (IsPermutation-refl []);
  counted = ap length empty;
})

-- the same, shared
pub same_listed : (events more : List EventView) (ids new : IdMap) (newest newer : List (ℕ × EventView)) → IsListing events ids newest → more ≡ events → ((id : Id) → place_of new id ≡ place_of ids id) → newer ≡ newest → IsListing more new newer
same_listed events more ids new newest newer h is finds same =
    subst (λ (xs : List EventView). IsListing xs new newer) (sym is) (subst (λ (ps : List (ℕ × EventView)). IsListing events new ps) (sym same) (record {
      distinct = h.distinct;
      finds = λ id. finds id ∙ h.finds id;
      ordered = h.ordered;
      counted = h.counted;
    }))

-- a new event behind all others
pub more_listed : (events more : List EventView) (ids new : IdMap) (newest newer : List (ℕ × EventView)) (e : EventView) → IsListing events ids newest → has_id e.id events ≡ false
    → more ≡ events ++ e ∷ [] → SetsPlace e.id (length events) ids new → AreOf (events ++ e ∷ []) newer → length newer ≡ length newest + 1 → IsListing more new newer
more_listed events more ids new newest newer e h none is sets among counted =
    subst (λ (xs : List EventView). IsListing xs new newer) (sym is) (record {
      distinct = distinct_push events e h.distinct none;
      finds = λ id. sets id ∙ ap (λ (o : Option ℕ). if bytes_eq e.id.0 id.0 then Some (length events) else o) (h.finds id)
          ∙ sym (place_push 0 (length events) id e events (omega arith) none);
      ordered = among;
      counted = omega (arith, counted, h.counted, length-append events (e ∷ []));
    })
