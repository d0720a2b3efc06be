-- What is told of published events, and what is pinned.
use Rattle.std.specs.Prelude.{Bool, List, [], ◌∷◌, not}
use Rattle.item_key.specs.declared.Id.{Id}
use Rattle.item_key.specs.declared.Item.{Item}
use Rattle.nostr_event.specs.EventView.{EventView}
use Rattle.event_table.specs.Events.{has_id, with_event}

-- an event with this id is published, and this is the published list up to the front
pub record Placing : Type 0 where
  pub id : Id
  pub fresh : Bool
  pub list : List EventView

abbrev pub placing : Id → Bool → List EventView → Placing
placing id fresh list = record { id = id; fresh = fresh; list = list }

-- what is told of each event of a list in turn, put behind others, where all are published at once
abbrev pub placings : List EventView → List EventView → List EventView → List Placing
placings [] events list = []
placings (e ∷ more) events list = placing e.id (not (has_id e.id events)) list ∷ placings more (with_event e events) list

-- what was pinned: the published list, its events that match, and their items
pub record Pinned : Type 0 where
  pub all : List EventView
  pub events : List EventView
  pub roll : List Item

abbrev pub pinned : List EventView → List EventView → List Item → Pinned
pinned all events roll = record { all = all; events = events; roll = roll }
