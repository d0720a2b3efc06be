-- The ids among which others are looked up, and those that were found.
use Rattle.std.specs.Prelude.{List}
use Rattle.item_key.specs.declared.Id.{Id}
use Rattle.neg_initiator.specs.declared.ids.Ids.{Ids}
use Rattle.neg_initiator.specs.declared.ids.Ids.TheVariants as ids
use Rattle.neg_initiator.specs.declared.ids.Lookup.{Lookup}
use Rattle.neg_initiator.specs.declared.ids.Lookup.TheVariants as lookup

abbrev pub looked_up : Lookup → List Id
looked_up (lookup.Few ids) = ids.now
looked_up (lookup.Many set) = set.keys

abbrev pub ids_in : Ids → List Id
ids_in (ids.Listed list) = list.items
ids_in (ids.Set set) = set.keys

-- they were made a set
abbrev pub IsSet : Ids → Type 0
IsSet (ids.Listed list) = ⊥
IsSet (ids.Set set) = Unit {0}
