-- Events with their places, in runs of which each has the newest first.
use Rattle.std.specs.Prelude.{◌≡◌, ⊤, ℕ, ◌≤◌, ◌==◌, false, List, [], ◌∷◌, Bool, IsTrue, All, map, flat_map, if◌then◌else◌}
use Rattle.std.specs.List.{enumerate_from, filter, sum_by}
use Rattle.std.specs.List.Sorted.{IsPermutation}
use Rattle.std.specs.Ordering.{is_lt}
use Rattle.nostr_event.specs.EventView.{EventView}
use Rattle.nostr_filter.specs.declared.filter.Filter.{Filter}
use Rattle.nostr_filter.specs.declared.choice.Rank.{Rank}
use Rattle.nostr_filter.specs.Matching.{matches_of}
use Rattle.nostr_filter.specs.Choice.{newest_first, rank_of}

-- what orders an event with its place
abbrev pub rank : ℕ × EventView → Rank
rank p = rank_of p.0 p.1

-- whether one comes before another
abbrev pub comes_before : Rank → Rank → Bool
comes_before a b = is_lt (newest_first a b)

-- none of the events comes before this
abbrev pub NoneBefore : Rank → List (ℕ × EventView) → Type 0
NoneBefore r ps = All (λ p. comes_before (rank p) r ≡ false) ps

-- the newest first, of those of one time the one with the lowest id first
abbrev pub IsNewestFirst : List (ℕ × EventView) → Type 0
IsNewestFirst [] = ⊤
IsNewestFirst (p ∷ ps) = NoneBefore (rank p) ps × IsNewestFirst ps

-- these are the events, each with its place among them
abbrev pub AreOf : List EventView → List (ℕ × EventView) → Type 0
AreOf events newest = IsPermutation (enumerate_from 0 events) newest

-- those of all runs
abbrev pub joined : List (List (ℕ × EventView)) → List (ℕ × EventView)
joined runs = flat_map (λ r. r) runs

-- what orders those that the filter matches
abbrev pub hits : Filter → List (ℕ × EventView) → List Rank
hits f newest = map rank (filter (λ p. matches_of f p.1) newest)

-- how many have the place
abbrev pub placed_at : ℕ → List (ℕ × EventView) → ℕ
placed_at n ps = sum_by (λ p. if p.0 == n then 1 else 0) ps

-- no two have one place
abbrev pub AreApart : List (ℕ × EventView) → Type 0
AreApart ps = (n : ℕ) → placed_at n ps ≤ 1

-- a part of a run, without none of those that the filter matches
pub record IsRest (f : Filter) (rest run : List (ℕ × EventView)) : Type 0 where
  pub hits : hits f rest ≡ hits f run
  pub sorted : IsNewestFirst rest
  pub part : (n : ℕ) → placed_at n rest ≤ placed_at n run

-- the first one, if there is one, is matched
abbrev pub BeginsMatched : Filter → List (ℕ × EventView) → Type 0
BeginsMatched f [] = ⊤
BeginsMatched f (p ∷ ps) = IsTrue (matches_of f p.1)
