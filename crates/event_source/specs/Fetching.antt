-- What a source was asked and what it gave, as ids, and what a log of them gained.
use Rattle.std.specs.Prelude.{◌≡◌, List, length, drop, map, Contains}
use Rattle.std.specs.Arc.{arc_value}
use Rattle.std.specs.declared.sync.Arc.{Arc as AnArc}
use Rattle.std.specs.declared.alloc.Global.{Global as AGlobal}
use Rattle.item_key.specs.declared.Id.{Id}
use Rattle.nostr_event.specs.EventView.{EventView}

pub record Fetching : Type 0 where
  pub asked : List Id
  pub given : List Id

abbrev pub fetching : List Id → List Id → Fetching
fetching asked given = record { asked = asked; given = given }

-- the ids of these events, in order
abbrev pub ids_of : List (AnArc EventView AGlobal) → List Id
ids_of events = map (λ (e : AnArc EventView AGlobal). (arc_value e).id) events

-- one of the events that were given, which has this id
abbrev pub IsGiven : Id → List (AnArc EventView AGlobal) → EventView → Type 0
IsGiven id given e = (e.id ≡ id) × Contains (map arc_value given) e

-- one of them, of which the id was asked for
abbrev pub IsAsked : List Id → List (AnArc EventView AGlobal) → EventView → Type 0
IsAsked asked given e = Contains asked e.id × Contains (map arc_value given) e

-- what a log has after what it had
abbrev pub fetched : List Fetching → List Fetching → List Fetching
fetched old new = drop (length old) new

-- one of these fetches asked for the id and gave it
abbrev pub WasGiven : List Fetching → Id → Type 0
WasGiven log id = (f : Fetching) × Contains log f × Contains f.asked id × Contains f.given id

-- one of these fetches asked for the id and didn't give it
abbrev pub WasMissed : List Fetching → Id → Type 0
WasMissed log id = (f : Fetching) × Contains log f × Contains f.asked id × (Contains f.given id → ⊥)
