-- The loads that relays begin with.
use Rattle.std.specs.Prelude.{◌≡◌, ℕ, ◌≤◌, ◌==◌, List, length, slice_index_or, unwrap_or}
use Rattle.std.specs.Map.{lookup}
use Rattle.sharing.specs.declared.TheConstants.{SLOTS, MOST_BASE}

-- where loads stand in the order of the relays: what relay r begins with, 0 beyond them
abbrev pub base_of : List ℕ → ℕ → ℕ
base_of loads r = slice_index_or loads r 0

-- where loads stand beside relays: what relay r begins with, 0 where it stands in no pair
abbrev pub base_in : List (ℕ × ℕ) → ℕ → ℕ
base_in pairs r = unwrap_or (lookup (λ x. r == x) pairs) 0

-- a load for each relay, none of them too large
pub record AreBases (loads : List ℕ) : Type 0 where
  pub long : length loads ≡ SLOTS
  pub small : (r : ℕ) → base_of loads r ≤ MOST_BASE
