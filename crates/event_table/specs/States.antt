-- The events of a store, with what finds them.
use Rattle.std.specs.Prelude.{◌≡◌, ℕ, ◌≤◌, List, length, map, take, IsPermutation}
use Rattle.item_key.specs.declared.Id.{Id}
use Rattle.item_key.specs.declared.Item.{Item}
use Rattle.nostr_event.specs.EventView.{EventView, item_of}
use Rattle.id_map.specs.declared.map.IdMap.{IdMap}
use Rattle.id_map.specs.Places.{place_of}
use Rattle.newest.specs.Newest.{AreOf}
use Rattle.event_index.specs.Postings.{Covered, Covers}
use Rattle.event_table.specs.Events.{DistinctIds, place_in}

-- the index is of the first of the events
pub record IsIndexed (events : List EventView) (index : Covered) : Type 0 where
  pub within : index.count ≤ length events
  pub covers : Covers (take index.count events) index

-- the roll has the items of the first of the events
pub record IsRolled (events : List EventView) (roll : List Item) : Type 0 where
  pub within : length roll ≤ length events
  pub items : IsPermutation (map item_of (take (length roll) events)) roll

-- the map finds each event at its place, and the order has each event with its place
pub record IsListing (events : List EventView) (ids : IdMap) (newest : List (ℕ × EventView)) : Type 0 where
  pub distinct : DistinctIds events
  pub finds : (id : Id) → place_of ids id ≡ place_in events id
  pub ordered : AreOf events newest
  pub counted : length newest ≡ length events

-- the roll and the index are of the first of the events
pub record IsState (events : List EventView) (roll : List Item) (index : Covered) : Type 0 where
  pub rolled : IsRolled events roll
  pub indexed : IsIndexed events index
