-- Rows of ids, each with the set of relays that offers its ids.
use Rattle.std.specs.Prelude.{◌≡◌, ℕ, ◌<◌, ◌≤◌, ◌==◌, List, [], ◌∷◌, length, map, slice_range, if◌then◌else◌}
use Rattle.std.specs.declared.cmp.Ordering.{Ordering}
use Rattle.std.specs.List.{All}
use Rattle.std.specs.List.Sorted.{IsStrictlySortedBy}
use Rattle.item_key.specs.declared.Id.{Id}
use Rattle.sharing.specs.Offers.{AreRelays}
use Rattle.offer_table.specs.declared.groups.Group.{Group}
use Rattle.offer_table.specs.Relays.{bits_of}
use Rattle.offer_table.specs.Groups.{set_cmp, ids_numbered}

-- groups that stand in parts of a list of ids
abbrev pub AreWithin : ℕ → List Group → Type 0
AreWithin count groups = All (λ g. (g.from ≤ g.to) × (g.to ≤ count)) groups

-- their sets, each with its ids
abbrev pub rows_of : List Id → List Group → List (List ℕ × List Id)
rows_of ids groups = map (λ g. (g.relays, slice_range ids g.from g.to)) groups

-- the ids beside the set with this number
abbrev pub ids_at : List (List ℕ × List Id) → ℕ → List Id
ids_at [] n = []
ids_at (g ∷ gs) n = if n == bits_of g.0 then g.1 else ids_at gs n

-- sets are ordered as numbers, whatever stands beside them
abbrev pub row_cmp : List ℕ × List Id → List ℕ × List Id → Ordering
row_cmp g h = set_cmp g.0 h.0

-- sets in order, each with some ids
pub record AreRows (rows : List (List ℕ × List Id)) : Type 0 where
  pub ordered : IsStrictlySortedBy row_cmp rows
  pub relays : All (λ g. AreRelays g.0) rows
  pub some : All (λ g. 0 < length g.1) rows

-- the rows have the offered ids, each beside the relays that offer it
abbrev pub IsGrouped : List (Id × List ℕ) → List (List ℕ × List Id) → Type 0
IsGrouped offers rows = (n : ℕ) → ids_at rows n ≡ ids_numbered n offers
