-- Lists of events, each id once.
use Rattle.std.specs.Prelude.{◌≡◌, ◌≢◌, ℕ, ◌+◌, ◌⊎◌, Bool, false, List, [], ◌∷◌, ◌++◌, length, slice_get, AllPairs, filter, filter_map, Option, None, Some, bytes_eq, not, if◌then◌else◌}
use Rattle.std.specs.List.{list_any}
use Rattle.item_key.specs.declared.Id.{Id}
use Rattle.nostr_event.specs.EventView.{EventView}
use Rattle.nostr_filter.specs.declared.filter.Filter.{Filter}
use Rattle.nostr_filter.specs.Matching.{matches_of}

-- the events that the filter matches, in the order of the list; its limit has no part in it
abbrev pub matching : Filter → List EventView → List EventView
matching f events = filter (matches_of f) events

-- whether an event of the list has this id
abbrev pub has_id : Id → List EventView → Bool
has_id id events = list_any (λ (e : EventView). bytes_eq e.id.0 id.0) events

-- behind the others, unless its id is among theirs
abbrev pub with_event : EventView → List EventView → List EventView
with_event e events = if has_id e.id events then events else events ++ e ∷ []

-- so each event of a list in turn, behind others
abbrev pub with_events : List EventView → List EventView → List EventView
with_events [] events = events
with_events (e ∷ more) events = with_events more (with_event e events)

-- whether each event of a list in turn is new behind others
abbrev pub freshness : List EventView → List EventView → List Bool
freshness [] events = []
freshness (e ∷ more) events = not (has_id e.id events) ∷ freshness more (with_event e events)

-- no two have one id
abbrev pub DistinctIds : List EventView → Type 0
DistinctIds events = AllPairs (λ (x y : EventView). x.id ≢ y.id) events

-- the place of the first event with this id, where the first event stands at the place n
abbrev pub place_from : ℕ → Id → List EventView → Option ℕ
place_from n id [] = None
place_from n id (e ∷ events) = if bytes_eq e.id.0 id.0 then Some n else place_from (n + 1) id events

abbrev pub place_in : List EventView → Id → Option ℕ
place_in events id = place_from 0 id events

-- the places of those of the ids that events have
abbrev pub places_in : List EventView → List Id → List ℕ
places_in events ids = filter_map (place_in events) ids

-- at this place the list ends, or has a new event for which there is no room
abbrev pub EndsRightly : ℕ → List EventView → ℕ → List EventView → Type 0
EndsRightly most events n published = (n ≡ length events) ⊎ ((e : EventView) × (slice_get events n ≡ Some e) × (has_id e.id published ≡ false) × (length published ≡ most))
