-- The events that filters choose, by the places of their ids.
use Rattle.std.proofs.Common.{◌≡◌, ℕ, suc, inl, inr, ◌+◌, ◌<◌, ◌==◌, Bool, true, false, cond, List, [], ◌∷◌, ◌++◌, length, get_or, map, flat_map, take, slice_get, refl, ap, sym, subst, arith, ◌∙◌, None, Some}
use Rattle.std.specs.Prelude.{option_to_list}
use Rattle.std.specs.List.{list_any, filter, enumerate_from}
use Rattle.std.proofs.lemmas.Bool.{cases_lt}
use Rattle.std.proofs.lemmas.List.{append-nil}
use Rattle.std.proofs.lemmas.Grind.{flat_map-append}
use Rattle.std.proofs.lemmas.Option.{slice_get-get_or}
use Rattle.std.specs.Arc.{arc_value}
use Rattle.std.specs.declared.alloc.Global.{Global}
use Rattle.std.specs.declared.sync.Arc.{Arc}
use Rattle.nostr_event.specs.EventView.{EventView}
use Rattle.nostr_filter.specs.declared.filter.Filter.{Filter}
use Rattle.nostr_filter.specs.declared.choice.Rank.{Rank}
use Rattle.nostr_filter.specs.Matching.{matches_of}
use Rattle.nostr_filter.specs.Choice.{newest_first, in_order, rank_of, matching_from, cut_of, picked}
use Rattle.event_table.specs.Places.{Rise, HaveMatching, ranks_from}
use Rattle.event_list.proofs.Chunked.{took_more}
use Rattle.event_table.proofs.Matched.{rise_more, none_at, tail_at, missed}

-- ---- what is chosen depends on the events alone, not on the references to them

pub ranks_are : (n : ℕ) (f : Filter) (events : List (Arc EventView Global)) → matching_from n f events ≡ ranks_from n f (map arc_value events)
ranks_are n f [] = refl
ranks_are n f (e ∷ events) = go (matches_of f (arc_value e)) ∙ ap (λ rs. cond (matches_of f (arc_value e)) (rank_of n (arc_value e) ∷ rs) rs) (ranks_are (n + 1) f events)
  where
    go : (b : Bool) → map (λ p. rank_of p.0 p.1.value) (cond b ((n, e) ∷ filter (λ p. matches_of f p.1.value) (enumerate_from (n + 1) events)) (filter (λ p. matches_of f p.1.value) (enumerate_from (n + 1) events)))
        ≡ cond b (rank_of n (arc_value e) ∷ matching_from (n + 1) f events) (matching_from (n + 1) f events)
    go true = refl
    go false = refl

pub picked_are : (f : Filter) (events : List (Arc EventView Global)) (list : List EventView) → map arc_value events ≡ list → picked events f ≡ take (cut_of f) (in_order newest_first (ranks_from 0 f list))
picked_are f events list is = ap (λ rs. take (cut_of f) (in_order newest_first rs)) (ranks_are 0 f events ∙ ap (ranks_from 0 f) is)

all_picked : (fs : List Filter) (xs ys : List (Arc EventView Global)) → map arc_value xs ≡ map arc_value ys → flat_map (picked xs) fs ≡ flat_map (picked ys) fs
all_picked [] xs ys is = refl
all_picked (f ∷ fs) xs ys is = (λ i. (picked_are f xs (map arc_value ys) is ∙ sym (picked_are f ys (map arc_value ys) refl)) i ++ all_picked fs xs ys is i)

-- ---- the ranks of the events at some places, among them all that match

-- the rank of the event at a place, if the filter matches it
abbrev pub rank_at : Filter → List EventView → ℕ → List Rank
rank_at f events p = ranks_from p f (option_to_list (slice_get events p))

cond_front : (b : Bool) (r : Rank) (rs : List Rank) → cond b (r ∷ []) [] ++ rs ≡ cond b (r ∷ rs) rs
cond_front true r rs = refl
cond_front false r rs = refl

module _ (f : Filter) (g : ℕ → List Rank) where
  abbrev Gives : ℕ → List EventView → Type 0
  Gives n events = (i k : ℕ) (d : EventView) → k ≡ n + i → i < length events → g k ≡ ranks_from k f (get_or events i d ∷ [])

  abbrev Whole : ℕ → List EventView → List ℕ → Type 0
  Whole n events places = (i k : ℕ) (d : EventView) → k ≡ n + i → i < length events → matches_of f (get_or events i d) ≡ true → list_any (λ p. p == k) places ≡ true

  rank_down : (n high : ℕ) (events : List EventView) (places : List ℕ) → Rise n high places → high ≡ n + length events → Gives n events → Whole n events places
      → flat_map g places ≡ ranks_from n f events
  rank_down n high [] [] rise end at whole = refl
  rank_down n high [] (p ∷ places) rise end at whole = absurd (omega (arith, rise.0, rise.1, end))
  rank_down n high (e ∷ events) [] rise end at whole =
      let skip : matches_of f e ≡ false = missed (matches_of f) (λ _. None) n e events [] whole refl in
      rw skip (rank_down (n + 1) high events [] tt (omega (arith, end)) (λ i k d is lt. at (suc i) k d (omega (arith, is)) (omega (arith, lt)))
      (λ i k d is lt hit. whole (suc i) k d (omega (arith, is)) (omega (arith, lt)) hit))
  rank_down n high (e ∷ events) (p ∷ places) rise end at whole = elim (cases_lt n p) [
    | inl later ↦
        let skip : matches_of f e ≡ false = missed (matches_of f) (λ _. None) n e events (p ∷ places) whole (none_at p high n (p ∷ places) (omega arith, rise.1, rise.2) later) in
        rw skip (rank_down (n + 1) high events (p ∷ places) (omega (arith, later), rise.1, rise.2) (omega (arith, end)) (λ i k d is lt. at (suc i) k d (omega (arith, is)) (omega (arith, lt)))
        (λ i k d is lt hit. whole (suc i) k d (omega (arith, is)) (omega (arith, lt)) hit))
    | inr early ↦
        let same : p ≡ n = omega (arith, rise.0, early) in
        let here : g p ≡ cond (matches_of f e) (rank_of n e ∷ []) [] = at 0 p e (omega (arith, same)) (omega arith) ∙ ap (λ (k : ℕ). cond (matches_of f e) (rank_of k e ∷ []) []) same in
        let rest : flat_map g places ≡ ranks_from (n + 1) f events =
        rank_down (n + 1) high events places (rise_more (p + 1) (n + 1) high places (omega (arith, rise.0)) rise.2) (omega (arith, end)) (λ i k d is lt. at (suc i) k d (omega (arith, is)) (omega (arith, lt)))
        (λ i k d is lt hit. tail_at p k places (omega (arith, is, early)) (whole (suc i) k d (omega (arith, is)) (omega (arith, lt)) hit)) in
        (λ i. here i ++ rest i) ∙ cond_front (matches_of f e) (rank_of n e) (ranks_from (n + 1) f events)
  ]

pub ranked_is : (f : Filter) (events : List EventView) (places : List ℕ) → HaveMatching f events places → flat_map (rank_at f events) places ≡ ranks_from 0 f events
ranked_is f events places h =
    rank_down f (rank_at f events) 0 (length events) events places h.rise (omega arith)
    (λ i k d is lt. let same : k ≡ i = omega (arith, is) in
    ap (λ o. ranks_from k f (option_to_list o)) (ap (slice_get events) same ∙ slice_get-get_or events i d lt))
    (λ i k d is lt hit. let same : i ≡ k = omega (arith, is) in subst (λ n. list_any (λ p. p == n) places ≡ true) same (h.whole i d lt hit))

pub ranks_more : (f : Filter) (events : List EventView) (all more : List Rank) (places : List ℕ) (i : ℕ) (e : EventView) → i < length places → slice_get events (get_or places i 0) ≡ Some e
    → all ≡ flat_map (rank_at f events) (take i places) → more ≡ all ++ ranks_from (get_or places i 0) f (e ∷ []) → more ≡ flat_map (rank_at f events) (take (i + 1) places)
ranks_more f events all more places i e lt at is put =
    let p = get_or places i 0 in
    let last : ranks_from p f (e ∷ []) ≡ flat_map (rank_at f events) (p ∷ []) = sym (append-nil (rank_at f events p) ∙ ap (λ o. ranks_from p f (option_to_list o)) at) in
    put ∙ ap (λ rs. rs ++ ranks_from p f (e ∷ [])) is ∙ ap (λ rs. flat_map (rank_at f events) (take i places) ++ rs) last
    ∙ sym (flat_map-append (rank_at f events) (take i places) (p ∷ [])) ∙ ap (flat_map (rank_at f events)) (sym (took_more places i p (slice_get-get_or places i 0 lt)))

-- one turn of a loop that shares references
