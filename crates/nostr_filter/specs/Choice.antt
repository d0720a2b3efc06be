-- Which of the matching events are sent, and in which order (NIP-01).
use Rattle.std.specs.Prelude.{ℕ, List, [], ◌∷◌, map, flat_map, min, take, unwrap_or}
use Rattle.std.specs.List.{filter, enumerate_from}
use Rattle.std.specs.Ordering.{nat_cmp, ordering_then, match_ordering}
use Rattle.std.specs.declared.cmp.Ordering.{Ordering}
use Rattle.std.specs.Cmp.Lexicographic.{slice_cmp}
use Rattle.std.specs.declared.alloc.Global.{Global}
use Rattle.std.specs.declared.sync.Arc.{Arc}
use Rattle.nostr_event.specs.EventView.{EventView}
use Rattle.nostr_filter.specs.declared.filter.Filter.{Filter}
use Rattle.nostr_filter.specs.declared.choice.Rank.{Rank}
use Rattle.nostr_filter.specs.Matching.{matches_of}

-- x in its place among things that are in order, once
abbrev pub placed : {X : Type 0} → (X → X → Ordering) → X → List X → List X
placed order x [] = x ∷ []
placed order x (y ∷ ys) = match_ordering (order x y) (x ∷ y ∷ ys) (y ∷ ys) (y ∷ placed order x ys)

-- some things in order, each once
abbrev pub in_order : {X : Type 0} → (X → X → Ordering) → List X → List X
in_order order [] = []
in_order order (x ∷ xs) = placed order x (in_order order xs)

-- the newest first, of those of one time the one with the lowest id, and of those of one id the one that stands first
abbrev pub newest_first : Rank → Rank → Ordering
newest_first a b = ordering_then (nat_cmp b.time.0 a.time.0) (ordering_then (slice_cmp nat_cmp a.id.0 b.id.0) (nat_cmp a.place b.place))

-- what orders an event, and its place in the list
unfoldable pub rank_of : ℕ → EventView → Rank
rank_of place e = record { time = record { 0 = e.draft.created_at }; id = e.id; place = place }

-- the ranks of the events from the place n on that the filter matches
abbrev pub matching_from : ℕ → Filter → List (Arc EventView Global) → List Rank
matching_from n f events = map (λ p. rank_of p.0 p.1.value) (filter (λ p. matches_of f p.1.value) (enumerate_from n events))

-- how many events a filter chooses at most
abbrev pub cut_of : Filter → ℕ
cut_of f = min (unwrap_or f.limit 5000) 5000

-- what one filter chooses
abbrev pub picked : List (Arc EventView Global) → Filter → List Rank
picked events f = take (cut_of f) (in_order newest_first (matching_from 0 f events))

-- what some filter chooses, each once
abbrev pub chosen : List Filter → List (Arc EventView Global) → List ℕ
chosen filters events = map (λ r. r.place) (in_order newest_first (flat_map (picked events) filters))
