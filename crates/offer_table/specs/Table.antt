-- A table of offers: which relays reported, and who offers what.
use Rattle.std.specs.Prelude.{ℕ, ◌≤◌, not, List, length, count_by, is_some}
use Rattle.item_key.specs.declared.Id.{Id}
use Rattle.sharing.specs.declared.TheConstants.{MOST_IDS}
use Rattle.sharing.specs.Offers.{IsOffers, beside}

pub record Table : Type 0 where
  pub reported : List ℕ
  pub offers : List (Id × List ℕ)

-- what is so of each table
pub record IsTable (table : Table) : Type 0 where
  pub offers_ok : IsOffers table.offers
  pub few : length table.offers ≤ MOST_IDS

-- how many ids of theirs are none of mine
abbrev pub new_in : List (Id × List ℕ) → List (Id × List ℕ) → ℕ
new_in mine theirs = count_by (λ p. not (is_some (beside mine p.0))) theirs
