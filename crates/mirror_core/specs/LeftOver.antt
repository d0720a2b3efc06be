-- Which offers are left over for a round where relays stopped in the last one.
use Rattle.std.specs.Prelude.{◌≡◌, ℕ, true, false, List}
use Rattle.item_key.specs.declared.Id.{Id}
use Rattle.sharing.specs.Bases.{base_of}
use Rattle.sharing.specs.Sharing.{is_among, NoneSmaller}
use Rattle.sharing.specs.Offers.{relays_of, IsOffers}
use Rattle.fetch_plan.specs.Plan.{Planned, IsPlanOf}

-- Of the relays that offer an id some are left out: just those that stopped, where one that didn't is kept.
pub record KeepsRelays (stopped relays kept : List ℕ) : Type 0 where
  pub sound : (r : ℕ) → is_among kept r ≡ true → is_among relays r ≡ true
  -- a relay that stopped is kept only where each relay of the id stopped
  pub last : (r : ℕ) → is_among kept r ≡ true → is_among stopped r ≡ true → (s : ℕ) → is_among relays s ≡ true → is_among stopped s ≡ true
  -- what is left out stopped, and another that didn't is kept
  pub out : (r : ℕ) → is_among relays r ≡ true → is_among kept r ≡ false → (is_among stopped r ≡ true) × (s : ℕ) × (is_among kept s ≡ true) × (is_among stopped s ≡ false)

-- the same of each id, so that no id which some relay offers is given up
pub record IsLeftOver (stopped : List ℕ) (old new : List (Id × List ℕ)) : Type 0 where
  pub ordered : IsOffers new
  pub each : (i : Id) → KeepsRelays stopped (relays_of old i) (relays_of new i)

-- a least plan, over these bases, of what is left over of the offers
pub record IsFailover (bases : List ℕ) (stopped : List ℕ) (offers : List (Id × List ℕ)) (plan : Planned) : Type 0 where
  pub left : List (Id × List ℕ)
  pub left_over : IsLeftOver stopped offers left
  pub planned : IsPlanOf bases left plan
  pub least : NoneSmaller (base_of bases) left plan.least_max
