-- What the jobs `plan` and `check` write, and why they are refused.
use Rattle.std.specs.Prelude.{ℕ, ◌≤◌, List, [], ◌∷◌, ◌++◌, length, codes, decimal, Option, IsUtf8}
use Rattle.std.specs.Io.KnownBytes.{Appends}
use Rattle.sharing.specs.declared.TheConstants.{MOST_IDS}
use Rattle.sharing.specs.Bases.{base_in}
use Rattle.sharing.specs.Sharing.{NoneSmaller}
use Rattle.mirror_run.specs.declared.refusal.LineFault.{LineFault}
use Rattle.mirror_run.specs.declared.refusal.LineFault.TheVariants.{Form, Order as Disorder}
use Rattle.mirror_run.specs.declared.refusal.Refusal.{Refusal}
use Rattle.mirror_run.specs.declared.refusal.Refusal.TheVariants.{Write, Line as AtLine, Plan, TableFull, Memory as Lacking}
use Rattle.mirror_run.specs.Refused.{IsTextRefusal}
use Rattle.plan_check.specs.declared.faults.PlanFault.TheVariants.{Line, Order}
use Rattle.plan_check.specs.File.{File}
use Rattle.plan_check.specs.PlanText.{IsTextOf}
use Rattle.plan_check.specs.PlanReading.{IsTextFault}
use Rattle.plan_run.specs.Planned.{IsPlannedFrom, Passes, IsTooMany, IsRefusedAs}

-- the text is of a file that is planned from the input's
pub record PlansTo (input text : List ℕ) : Type 0 where
  pub read : File
  pub made : File
  pub told : IsTextOf input read
  pub short : length input ≤ 67108864
  pub few : length read.offers ≤ MOST_IDS
  pub planned : IsPlannedFrom read made
  pub spelled : IsTextOf text made
  pub utf8 : IsUtf8 text

-- such a text was written
pub record IsPlanWritten (input : List ℕ) (old new : Option (List ℕ)) : Type 0 where
  pub text : List ℕ
  pub plans : PlansTo input text
  pub written : Appends old new text

-- the line that tells a load
abbrev pub least_text : ℕ → List ℕ
least_text most = codes "least " ++ decimal most ++ 10 ∷ []

-- a text's gives are a sharing of its offers with this busiest load, and no sharing of them has less
pub record ChecksAs (text : List ℕ) (most : ℕ) : Type 0 where
  pub file : File
  pub told : IsTextOf text file
  pub passes : Passes file most
  pub least : NoneSmaller (base_in file.bases) file.offers most

-- so it is of an input within its limit
pub record ChecksTo (input : List ℕ) (most : ℕ) : Type 0 where
  pub short : length input ≤ 67108864
  pub checks : ChecksAs input most

-- such a load was written
pub record IsLeastWritten (input : List ℕ) (old new : Option (List ℕ)) : Type 0 where
  pub most : ℕ
  pub checks : ChecksTo input most
  pub written : Appends old new (least_text most)

-- a line's fault: that of the first wrong line, or of the first out of order
abbrev pub IsLineRefusal : List ℕ → ℕ → LineFault → Type 0
IsLineRefusal input n Form = IsTextFault input (Line n)
IsLineRefusal input n Disorder = IsTextFault input (Order n)
IsLineRefusal input n _ = ⊥

-- Why nothing is planned of a text. Want of memory is told only of a plan text with no more offers than a table takes.
abbrev pub IsUnplanned : List ℕ → Refusal → Type 0
IsUnplanned text (AtLine n fault) = IsLineRefusal text n fault
IsUnplanned text TableFull = (file : File) × IsTextOf text file × IsTooMany file
IsUnplanned text Lacking = (file : File) × IsTextOf text file × (length file.offers ≤ MOST_IDS)
IsUnplanned text _ = ⊥

-- Why no load is told of a text. Want of memory is told only of a plan text.
abbrev pub IsUnchecked : List ℕ → Refusal → Type 0
IsUnchecked text (AtLine n fault) = IsLineRefusal text n fault
IsUnchecked text (Plan number) = (file : File) × IsTextOf text file × IsRefusedAs file number
IsUnchecked text Lacking = (file : File) × IsTextOf text file
IsUnchecked text _ = ⊥

-- why a job is refused: outside the text, or for the text
abbrev pub IsRefusedBy : (List ℕ → Refusal → Type 0) → List ℕ → Refusal → Type 0
IsRefusedBy IsIt input Write = Unit {0}
IsRefusedBy IsIt input (AtLine n fault) = (length input ≤ 67108864) × IsUtf8 input × IsIt input (AtLine n fault)
IsRefusedBy IsIt input (Plan number) = (length input ≤ 67108864) × IsUtf8 input × IsIt input (Plan number)
IsRefusedBy IsIt input TableFull = (length input ≤ 67108864) × IsUtf8 input × IsIt input TableFull
IsRefusedBy IsIt input e = IsTextRefusal input e

abbrev pub IsPlanRefusal : List ℕ → Refusal → Type 0
IsPlanRefusal input e = IsRefusedBy IsUnplanned input e

abbrev pub IsCheckRefusal : List ℕ → Refusal → Type 0
IsCheckRefusal input e = IsRefusedBy IsUnchecked input e
