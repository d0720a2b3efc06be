-- What the jobs make of texts: with a fault, with a plan that is least, with one that isn't.
use Rattle.std.specs.Prelude.{◌≡◌, ℕ, ◌⊎◌, List, Result, Ok, Err}
use Rattle.mirror_run.specs.declared.refusal.LineFault.{LineFault}
use Rattle.mirror_run.specs.declared.refusal.Refusal.{Refusal}
use Rattle.mirror_run.specs.declared.refusal.Refusal.TheVariants.{Line as AtLine, Plan, Memory as Lacking}
use Rattle.plan_check.specs.declared.faults.PlanFault.{PlanFault}
use Rattle.plan_check.specs.declared.faults.PlanFault.TheVariants.{Memory}
use Rattle.plan_check.specs.File.{File}
use Rattle.plan_check.specs.PlanText.{IsTextOf}
use Rattle.plan_check.specs.PlanReading.{Reads}
use Rattle.plan_run.specs.Planned.{Passes, IsRefusedAs}
use Rattle.plan_run.specs.Jobs.{PlansTo, ChecksAs, IsLineRefusal, IsUnplanned, IsUnchecked}

-- The text is read as a file on which `check` answers this load. The job `check` tells it, and no other, and is
-- refused for want of memory alone.
pub record PassesCheck (text : List ℕ) (most : ℕ) : Type 0 where
  pub reads : (read : Result File PlanFault) → Reads text read → (read ≡ Err Memory) ⊎ ((file : File) × (read ≡ Ok file) × Passes file most)
  pub checks : ChecksAs text most
  pub only : (other : ℕ) → ChecksAs text other → other ≡ most
  pub unrefused : (e : Refusal) → IsUnchecked text e → e ≡ Lacking

-- The job `check` tells no load of the text, and refuses it by this number, memory aside.
pub record FailsCheck (text : List ℕ) (number : ℕ) : Type 0 where
  pub silent : (most : ℕ) → ChecksAs text most → ⊥
  pub refused : (e : Refusal) → IsUnchecked text e → (e ≡ Plan number) ⊎ (e ≡ Lacking)

-- The jobs write nothing of the text, and refuse it by this line, whatever memory there is.
pub record FailsAt (text : List ℕ) (n : ℕ) (fault : LineFault) : Type 0 where
  pub unplanned : (made : List ℕ) → PlansTo text made → ⊥
  pub silent : (most : ℕ) → ChecksAs text most → ⊥
  pub plan_refused : (e : Refusal) → IsUnplanned text e → e ≡ AtLine n fault
  pub check_refused : (e : Refusal) → IsUnchecked text e → e ≡ AtLine n fault

-- a text whose gives are a sharing that the group shows to be least passes
abbrev pub LeastTextsPass : Type 0
LeastTextsPass = (text : List ℕ) (file : File) (most : ℕ) → IsTextOf text file → Passes file most → PassesCheck text most

-- a text on whose plan the checker finds a fault fails by the number of that fault
abbrev pub FaultyTextsFail : Type 0
FaultyTextsFail = (text : List ℕ) (file : File) (number : ℕ) → IsTextOf text file → IsRefusedAs file number → FailsCheck text number

-- a text with a wrong line, or a line out of order, fails by the first such line
abbrev pub FaultyLinesFail : Type 0
FaultyLinesFail = (text : List ℕ) (n : ℕ) (fault : LineFault) → IsLineRefusal text n fault → FailsAt text n fault

-- each text that the job `plan` writes passes, with the busiest load of the plan
abbrev pub PlannedTextsPass : Type 0
PlannedTextsPass = (input text : List ℕ) (plans : PlansTo input text) → PassesCheck text plans.planned.most
