-- The events that a filter matches, by the places where they stand.
use Rattle.std.proofs.Common.{◌≡◌, ℕ, zero, suc, inl, inr, ◌+◌, ◌<◌, ◌≤◌, ◌==◌, ◌||◌, Bool, true, false, true≢false, cond, List, [], ◌∷◌, ◌++◌, length, get_or, map, take, slice_get, refl, ap, sym, subst, arith, ◌∙◌, Option, None, Some, length-append}
use Rattle.std.specs.Prelude.{filter, filter_map, option_to_list, bytes_eq}
use Rattle.std.specs.List.{list_any, AllByRecursion}
use Rattle.std.specs.List.{cons_option}
use Rattle.std.specs.Ordering.{nat_cmp, match_ordering, MatchOrdering}
use Rattle.std.specs.declared.cmp.Ordering.{Ordering}
use Rattle.std.specs.declared.cmp.Ordering.TheVariants.{Less, Equal, Greater}
use Rattle.std.specs.FinSet.{nat_cmp-IsAntisymmetric}
use Rattle.std.proofs.lemmas.Bool.{cases_lt}
use Rattle.std.proofs.lemmas.Bool.Decides.{nat_tests}
use Rattle.std.proofs.lemmas.Cmp.{ranked, nat_cmp_total}
use Rattle.std.proofs.lemmas.List.{map-append}
use Rattle.std.proofs.lemmas.List.Elements.{filter-append, filter_map-append}
use Rattle.std.proofs.lemmas.Option.{slice_get-get_or}
use Rattle.std.proofs.lemmas.Slice.Eq.{bytes_eq-Decides}
use Rattle.item_key.specs.declared.Id.{Id}
use Rattle.item_key.specs.declared.Item.{Item}
use Rattle.nostr_event.specs.EventView.{EventView, item_of}
use Rattle.nostr_filter.specs.declared.filter.Filter.{Filter}
use Rattle.nostr_filter.specs.Matching.{matches_of}
use Rattle.nostr_filter.specs.Choice.{placed, in_order}
use Rattle.nostr_filter.proofs.Orders.{any_in_order}
use Rattle.event_list.proofs.Chunked.{took_more}
use Rattle.event_table.specs.Events.{matching, place_in, places_in, DistinctIds}
use Rattle.event_table.specs.Places.{AreAsked, Rise, HaveMatching}
use Rattle.event_table.proofs.Ids.{one_id, place_at, place_within}

-- ---- a filter over some of the events, among them all that match

pub rise_more : (low less high : ℕ) (places : List ℕ) → less ≤ low → Rise low high places → Rise less high places
rise_more low less high [] le h = tt
rise_more low less high (p ∷ places) le h = (omega (arith, h.0), h.1, h.2)

pub none_at : (low high i : ℕ) (places : List ℕ) → Rise low high places → i < low → list_any (λ p. p == i) places ≡ false
none_at low high i [] h lt = refl
none_at low high i (p ∷ places) h lt =
    let le : low ≤ p = h.0 in
    let other : (p == i) ≡ false = grind (arith, nat_tests) in
    rw other (none_at (p + 1) high i places h.2 (omega (arith, le)))

not_true : (b : Bool) → (b ≡ true → true ≡ false) → b ≡ false
not_true true h = absurd (true≢false (h refl))
not_true false h = refl

pub tail_at : (p i : ℕ) (places : List ℕ) → p < i → list_any (λ q. q == i) (p ∷ places) ≡ true → list_any (λ q. q == i) places ≡ true
tail_at p i places lt h =
    let other : (p == i) ≡ false = grind (arith, nat_tests) in
    rw other at h

module _ (m : EventView → Bool) (h : ℕ → Option EventView) where
  -- the events are found at the places from n on
  abbrev Stand : ℕ → List EventView → Type 0
  Stand n events = (i k : ℕ) (d : EventView) → k ≡ n + i → i < length events → h k ≡ Some (get_or events i d)

  -- those that match stand at the places
  abbrev pub Whole : ℕ → List EventView → List ℕ → Type 0
  Whole n events places = (i k : ℕ) (d : EventView) → k ≡ n + i → i < length events → m (get_or events i d) ≡ true → list_any (λ p. p == k) places ≡ true

  pub missed : (n : ℕ) (e : EventView) (events : List EventView) (places : List ℕ) → Whole n (e ∷ events) places → list_any (λ p. p == n) places ≡ false → m e ≡ false
  missed n e events places whole none = not_true (m e) (λ yes. sym (whole 0 n e (omega arith) (omega arith) yes) ∙ none)

  cut_down : (n high : ℕ) (events : List EventView) (places : List ℕ) → Rise n high places → high ≡ n + length events → Stand n events → Whole n events places
      → filter m (filter_map h places) ≡ filter m events
  cut_down n high [] [] rise end at whole = refl
  cut_down n high [] (p ∷ places) rise end at whole = absurd (omega (arith, rise.0, rise.1, end))
  cut_down n high (e ∷ events) [] rise end at whole =
      let skip : m e ≡ false = missed n e events [] whole refl in
      rw skip (cut_down (n + 1) high events [] tt (omega (arith, end)) (λ i k d is lt. at (suc i) k d (omega (arith, is)) (omega (arith, lt)))
      (λ i k d is lt yes. whole (suc i) k d (omega (arith, is)) (omega (arith, lt)) yes))
  cut_down n high (e ∷ events) (p ∷ places) rise end at whole = elim (cases_lt n p) [
    | inl later ↦
        let skip : m e ≡ false = missed n e events (p ∷ places) whole (none_at p high n (p ∷ places) (omega arith, rise.1, rise.2) later) in
        rw skip (cut_down (n + 1) high events (p ∷ places) (omega (arith, later), rise.1, rise.2) (omega (arith, end)) (λ i k d is lt. at (suc i) k d (omega (arith, is)) (omega (arith, lt)))
        (λ i k d is lt yes. whole (suc i) k d (omega (arith, is)) (omega (arith, lt)) yes))
    | inr early ↦
        let here : h p ≡ Some e = at 0 p e (omega (arith, rise.0, early)) (omega arith) in
        rw here (ap (λ xs. cond (m e) (e ∷ xs) xs)
        (cut_down (n + 1) high events places (rise_more (p + 1) (n + 1) high places (omega (arith, rise.0)) rise.2) (omega (arith, end)) (λ i k d is lt. at (suc i) k d (omega (arith, is)) (omega (arith, lt)))
        (λ i k d is lt yes. tail_at p k places (omega (arith, is, early)) (whole (suc i) k d (omega (arith, is)) (omega (arith, lt)) yes))))
  ]

pub picked_is : (f : Filter) (events : List EventView) (places : List ℕ) → HaveMatching f events places → matching f (filter_map (slice_get events) places) ≡ matching f events
picked_is f events places h =
    cut_down (matches_of f) (slice_get events) 0 (length events) events places h.rise (omega arith)
    (λ i k d is lt. let same : k ≡ i = omega (arith, is) in ap (slice_get events) same ∙ slice_get-get_or events i d lt)
    (λ i k d is lt yes. let same : i ≡ k = omega (arith, is) in subst (λ n. list_any (λ p. p == n) places ≡ true) same (h.whole i d lt yes))

pub place_in_range : (low high : ℕ) (places : List ℕ) (k d : ℕ) → Rise low high places → k < length places → get_or places k d < high
place_in_range low high [] k d h lt = absurd (omega arith)
place_in_range low high (p ∷ places) zero d h lt = h.1
place_in_range low high (p ∷ places) (suc k) d h lt = place_in_range (p + 1) high places k d h.2 (omega arith)

-- ---- places in order

rise_at : (o : Ordering) (low high x y : ℕ) (places : List ℕ) → MatchOrdering o (x < y) (x ≡ y) (y < x) → low ≤ x → x < high → Rise low high (y ∷ places) → (y < x → Rise (y + 1) high (placed nat_cmp x places))
    → Rise low high (match_ordering o (x ∷ y ∷ places) (y ∷ places) (y ∷ placed nat_cmp x places))
rise_at Less low high x y places is le lt h later = (le, lt, (omega (arith, is), h.1, h.2))
rise_at Equal low high x y places is le lt h later = h
rise_at Greater low high x y places is le lt h later = (h.0, h.1, later is)

rise_placed : (low high x : ℕ) (places : List ℕ) → low ≤ x → x < high → Rise low high places → Rise low high (placed nat_cmp x places)
rise_placed low high x [] le lt h = (le, lt, tt)
rise_placed low high x (y ∷ places) le lt h =
    rise_at (nat_cmp x y) low high x y places (ranked x y _ refl) le lt h (λ below. rise_placed (y + 1) high x places (omega (arith, below)) lt h.2)

pub rise_in_order : (high : ℕ) (places : List ℕ) → AllByRecursion (λ p. p < high) places → Rise 0 high (in_order nat_cmp places)
rise_in_order high [] h = tt
rise_in_order high (p ∷ places) h = rise_placed 0 high p (in_order nat_cmp places) (omega arith) h.0 (rise_in_order high places h.1)

-- ---- the places of ids

within_cons : (o : Option ℕ) (high : ℕ) (places : List ℕ) → ((p : ℕ) → o ≡ Some p → p < high) → AllByRecursion (λ p. p < high) places → AllByRecursion (λ p. p < high) (cons_option o places)
within_cons None high places lt h = h
within_cons (Some p) high places lt h = (lt p refl, h)

pub found_within : (events : List EventView) (ids : List Id) → AllByRecursion (λ p. p < length events) (places_in events ids)
found_within events [] = tt
found_within events (id ∷ ids) =
    within_cons (place_in events id) (length events) (places_in events ids) (λ p is. place_within 0 (length events) p id events is (omega arith)) (found_within events ids)

any_cons : (o : Option ℕ) (i : ℕ) (places : List ℕ) → list_any (λ p. p == i) places ≡ true → list_any (λ p. p == i) (cons_option o places) ≡ true
any_cons None i places h = h
any_cons (Some p) i places h = (λ j. (p == i) || h j) ∙ or_true (p == i)
  where
    or_true : (b : Bool) → (b || true) ≡ true
    or_true true = refl
    or_true false = refl

first_cons : (o : Option ℕ) (i : ℕ) (places : List ℕ) → o ≡ Some i → list_any (λ p. p == i) (cons_option o places) ≡ true
first_cons o i places is =
    let same : (i == i) ≡ true = grind (arith, nat_tests) in
    rw is (rw same refl)

asked_at : (b : Bool) (x id : Id) (events : List EventView) (ids : List Id) (i : ℕ) → bytes_eq x.0 id.0 ≡ b → place_in events id ≡ Some i
    → (b || list_any (λ (y : Id). bytes_eq y.0 id.0) ids) ≡ true → (list_any (λ (y : Id). bytes_eq y.0 id.0) ids ≡ true → list_any (λ p. p == i) (places_in events ids) ≡ true)
    → list_any (λ p. p == i) (cons_option (place_in events x) (places_in events ids)) ≡ true
asked_at true x id events ids i same is any later =
    let one : id ≡ x = one_id id x (sym ((bytes_eq-Decides x.0 id.0).0 same)) in
    first_cons (place_in events x) i (places_in events ids) (subst (λ (y : Id). place_in events y ≡ Some i) one is)
asked_at false x id events ids i same is any later = any_cons (place_in events x) i (places_in events ids) (later any)

pub asked_found : (events : List EventView) (ids : List Id) (id : Id) (i : ℕ) → place_in events id ≡ Some i → list_any (λ (x : Id). bytes_eq x.0 id.0) ids ≡ true
    → list_any (λ p. p == i) (places_in events ids) ≡ true
asked_found events [] id i is any = absurd (true≢false (sym any))
asked_found events (x ∷ ids) id i is any = asked_at (bytes_eq x.0 id.0) x id events ids i refl is any (asked_found events ids id i is)

pub have_matching : (f : Filter) (events : List EventView) (ids : List Id) → DistinctIds events → AreAsked f events ids → HaveMatching f events (in_order nat_cmp (places_in events ids))
have_matching f events ids apart asked = record {
  rise = rise_in_order (length events) (places_in events ids) (found_within events ids);
  whole = λ i e lt yes. any_in_order nat_cmp_total nat_cmp-IsAntisymmetric (λ p. p == i) (places_in events ids)
      ∙ asked_found events ids (get_or events i e).id i (place_at 0 i events i e apart lt (omega arith)) (asked i e lt yes);
}

-- ---- one turn of a loop

pub matching_more : (f : Filter) (events all more : List EventView) (i : ℕ) (e : EventView) → slice_get events i ≡ Some e → all ≡ matching f (take i events) → more ≡ all ++ matching f (e ∷ [])
    → more ≡ matching f (take (i + 1) events)
matching_more f events all more i e at is put =
    put ∙ ap (λ xs. xs ++ matching f (e ∷ [])) is ∙ sym (filter-append (matches_of f) (take i events) (e ∷ [])) ∙ ap (matching f) (sym (took_more events i e at))

one_more : (o : Option EventView) (e : EventView) → o ≡ Some e → cons_option o [] ≡ e ∷ []
one_more o e is = ap (λ (p : Option EventView). cons_option p []) is

pub picked_more : (f : Filter) (events all more : List EventView) (places : List ℕ) (i : ℕ) (e : EventView) → i < length places → slice_get events (get_or places i 0) ≡ Some e
    → all ≡ matching f (filter_map (slice_get events) (take i places)) → more ≡ all ++ matching f (e ∷ []) → more ≡ matching f (filter_map (slice_get events) (take (i + 1) places))
picked_more f events all more places i e lt at is put =
    let p = get_or places i 0 in
    let last : filter_map (slice_get events) (p ∷ []) ≡ e ∷ [] = one_more (slice_get events p) e at in
    put ∙ ap (λ xs. xs ++ matching f (e ∷ [])) is ∙ sym (filter-append (matches_of f) (filter_map (slice_get events) (take i places)) (e ∷ []))
    ∙ ap (λ xs. matching f (filter_map (slice_get events) (take i places) ++ xs)) (sym last)
    ∙ ap (matching f) (sym (filter_map-append (slice_get events) (take i places) (p ∷ [])) ∙ ap (filter_map (slice_get events)) (sym (took_more places i p (slice_get-get_or places i 0 lt))))

pub few_more : (f : Filter) (all more : List EventView) (e : EventView) (n : ℕ) → more ≡ all ++ matching f (e ∷ []) → length all ≤ n → length more ≤ n + 1
few_more f all more e n put few = omega (arith, ap length put, length-append all (matching f (e ∷ [])), at_most (matches_of f e), few)
  where
    at_most : (b : Bool) → length (cond b (e ∷ []) []) ≤ 1
    at_most true = omega arith
    at_most false = omega arith

pub found_more : (events : List EventView) (ids : List Id) (i : ℕ) (d : Id) (o : Option ℕ) (all more : List ℕ) → i < length ids → o ≡ place_in events (get_or ids i d)
    → all ≡ places_in events (take i ids) → more ≡ all ++ option_to_list o → more ≡ places_in events (take (i + 1) ids)
found_more events ids i d o all more lt at is put =
    let x = get_or ids i d in
    put ∙ ap (λ ps. ps ++ option_to_list o) is ∙ ap (λ p. places_in events (take i ids) ++ option_to_list p) at ∙ ap (λ ps. places_in events (take i ids) ++ ps) (last (place_in events x))
    ∙ sym (filter_map-append (place_in events) (take i ids) (x ∷ [])) ∙ ap (places_in events) (sym (took_more ids i x (slice_get-get_or ids i d lt)))
  where
    last : (p : Option ℕ) → option_to_list p ≡ cons_option p []
    last None = refl
    last (Some k) = refl

pub items_more : (events : List EventView) (items more : List Item) (i : ℕ) (e : EventView) → slice_get events i ≡ Some e → items ≡ map item_of (take i events) → more ≡ items ++ item_of e ∷ []
    → more ≡ map item_of (take (i + 1) events)
items_more events items more i e at is put =
    put ∙ ap (λ xs. xs ++ item_of e ∷ []) is ∙ sym (map-append item_of (take i events) (e ∷ [])) ∙ ap (map item_of) (sym (took_more events i e at))

-- a filter without conditions leaves out none
pub all_match : (f : Filter) (events : List EventView) → ((e : EventView) → matches_of f e ≡ true) → matching f events ≡ events
all_match f [] h = refl
all_match f (e ∷ events) h = rw (h e) (ap (λ xs. e ∷ xs) (all_match f events h))
