-- The plan that is made of a text.
use Rattle.std.specs.Prelude.{ℕ, ◌≤◌, List, length}
use Rattle.item_key.specs.declared.Id.{Id}
use Rattle.sharing.specs.declared.TheConstants.{MOST_IDS}
use Rattle.sharing.specs.Bases.{base_of}
use Rattle.fetch_plan.specs.Plan.{Planned, IsPlanOf}
use Rattle.plan_run.specs.Planned.{IsFront}

-- a plan of the bases and the offers that a text tells, whose lines end at this place
pub record IsPlannedText (text : List ℕ) (end : ℕ) (plan : Planned) : Type 0 where
  pub loads : List ℕ
  pub offers : List (Id × List ℕ)
  pub front : IsFront text (base_of loads) offers end
  pub few : length offers ≤ MOST_IDS
  pub plan_ok : IsPlanOf loads offers plan
