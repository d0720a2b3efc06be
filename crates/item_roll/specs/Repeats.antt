-- Items that stand twice in a list, and those that no roll takes.
use Rattle.std.specs.Prelude.{◌≡◌, ℕ, ◌<◌, ◌≤◌, List, length, slice_index_or, Contains}
use Rattle.item_key.specs.declared.Item.{Item}
use Rattle.item_key.specs.Keys.{endless}

-- the same time and id at two places
pub record HasRepeat (items : List Item) : Type 0 where
  pub first : ℕ
  pub second : ℕ
  pub apart : first < second
  pub within : second < length items
  pub same : (d : Item) → slice_index_or items first d ≡ slice_index_or items second d

-- a time that isn't infinity
abbrev pub IsFinite : Item → Type 0
IsFinite k = k.time < endless

-- some item stands at infinity
pub record HasEndless (items : List Item) : Type 0 where
  pub item : Item
  pub stands : Contains items item
  pub endless : endless ≤ item.time
