-- What a plan says, and what it promises for the offers and the bases that it is made of.
use Rattle.std.specs.Prelude.{◌≡◌, ℕ, ◌+◌, ◌≤◌, ◌<◌, ◌==◌, List, length, map, count_by}
use Rattle.std.specs.List.{All}
use Rattle.item_key.specs.declared.Id.{Id}
use Rattle.sharing.specs.declared.TheConstants.{RELAYS, MOST_IDS}
use Rattle.sharing.specs.Bases.{base_of, AreBases}
use Rattle.sharing.specs.Sharing.{load}
use Rattle.sharing.specs.Reached.{IsLeast}
use Rattle.sharing.specs.Offers.{Ascend, AreRelays, relay_in}

pub record Planned : Type 0 where
  -- what the relays' loads begin with
  pub bases : List ℕ
  -- each id, with the relay that it is given to
  pub gives : List (Id × ℕ)
  pub least_max : ℕ
  pub group : List ℕ

-- what is so of each plan
pub record IsPlan (plan : Planned) : Type 0 where
  pub bases_ok : AreBases plan.bases
  pub ascend : Ascend (map (λ g. g.0) plan.gives)
  pub few : length plan.gives ≤ MOST_IDS
  pub relays : All (λ g. g.1 < RELAYS) plan.gives
  pub group_ok : AreRelays plan.group

-- what relay r's load begins with, and one more for each id that it is given
abbrev pub planned_load : Planned → ℕ → ℕ
planned_load plan r = base_of plan.bases r + count_by (λ g. g.1 == r) plan.gives

-- The gives are of the offered ids, and they are a least sharing of them over the bases, which the group shows.
pub record IsPlanOf (bases : List ℕ) (offers : List (Id × List ℕ)) (plan : Planned) : Type 0 where
  pub bases_same : plan.bases ≡ bases
  pub ids : map (λ g. g.0) plan.gives ≡ map (λ p. p.0) offers
  pub loads : (r : ℕ) → load (base_of plan.bases) (relay_in plan.gives) offers r ≡ planned_load plan r
  pub least : IsLeast (base_of plan.bases) (relay_in plan.gives) offers plan.least_max plan.group
  pub plan_ok : IsPlan plan
