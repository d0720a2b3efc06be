-- The items of a part of a roll, and how it is cut in two.
use Rattle.std.specs.Prelude.{◌≡◌, ℕ, ◌*◌, ◌<◌, ◌≤◌, ◌++◌, List, length}
use Rattle.item_key.specs.declared.Item.{Item}

-- some items, and no more than so many
pub record IsPart (most : ℕ) (items : List Item) : Type 0 where
  pub some : 0 < length items
  pub few : length items ≤ most

-- 1 to 512 items
abbrev pub IsChunk : List Item → Type 0
IsChunk items = IsPart 512 items

-- the part of that number, where each part before it has some items, and no more than so many
pub record IsNumbered (most : ℕ) (items : List Item) (i : ℕ) (part : List Item) : Type 0 where
  pub front : List Item
  pub back : List Item
  pub list : front ++ (part ++ back) ≡ items
  pub least : i ≤ length front
  pub few : length front ≤ i * most

-- some items and some others are all
pub record IsHalved (items first second : List Item) : Type 0 where
  pub whole : first ++ second ≡ items
  pub some_first : 0 < length first
  pub some_second : 0 < length second
