-- What holds of all keys.
use Rattle.std.specs.Prelude.{◌≡◌, ◌<◌, ◌↔◌}
use Rattle.item_key.specs.declared.Item.{Item}
use Rattle.item_key.specs.Keys.{place, IsId, ComesBefore}

-- places are in the order of times, then of the bytes of the ids
abbrev pub OrderOfKeys : Type 0
OrderOfKeys = (a b : Item) → IsId a.id → IsId b.id → (place a < place b) ↔ ComesBefore a b

-- two items in one place are the same
abbrev pub OnePlace : Type 0
OnePlace = (a b : Item) → IsId a.id → IsId b.id → place a ≡ place b → a ≡ b
