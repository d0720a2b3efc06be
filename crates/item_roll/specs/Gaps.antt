-- Where an item that isn't in a list in order belongs.
use Rattle.std.specs.Prelude.{ℕ, ◌<◌, ◌≤◌, List, length, slice_index_or}
use Rattle.item_key.specs.declared.Item.{Item}
use Rattle.item_key.specs.Keys.{place}

-- the items before the index stand below it, the others above
pub record IsGap (items : List Item) (key : Item) (at : ℕ) : Type 0 where
  pub within : at ≤ length items
  pub below : (i : ℕ) (d : Item) → i < at → place (slice_index_or items i d) < place key
  pub above : (i : ℕ) (d : Item) → at ≤ i → i < length items → place key < place (slice_index_or items i d)
