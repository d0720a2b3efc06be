-- Where ids stand in a list.
use Rattle.std.specs.Prelude.{◌≡◌, ℕ, List, Some, slice_get, Contains, MatchOption}
use Rattle.std.specs.BTreeMap.{BTreeMap, get}
use Rattle.item_key.specs.declared.Id.{Id}
use Rattle.sharing.specs.Offers.{id_cmp}

-- a place of each id that stands in the list, and of no other id
abbrev pub ArePlacesOf : List Id → BTreeMap Id ℕ → Type 0
ArePlacesOf ids places = (id : Id) → MatchOption (get id_cmp places id) (Contains ids id → ⊥) (λ k. slice_get ids k ≡ Some id)
