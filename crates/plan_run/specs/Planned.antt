-- The plan file that is made of the offers of another, and what the checker says of a file.
use Rattle.std.specs.Prelude.{◌≡◌, ℕ, ◌<◌, ◌≤◌, List, length, take, Err}
use Rattle.item_key.specs.declared.Id.{Id}
use Rattle.sharing.specs.declared.TheConstants.{MOST_IDS}
use Rattle.sharing.specs.Bases.{base_in}
use Rattle.sharing.specs.Reached.{IsLeast}
use Rattle.sharing.specs.Offers.{relay_in}
use Rattle.plan_check.specs.declared.faults.PlanFault.{PlanFault}
use Rattle.plan_check.specs.declared.faults.PlanFault.TheVariants.{NotOffered, Missing, Stranger, GroupTooSmall}
use Rattle.plan_check.specs.File.{File}
use Rattle.plan_check.specs.PlanText.{offers_text, IsTextOf}
use Rattle.plan_check.specs.Verdict.{IsSharedOut, GroupShows, Judges}

-- The gives are a sharing of the offers with this busiest load, and the group shows that none has less. Just then
-- `check` answers it.
pub record Passes (file : File) (most : ℕ) : Type 0 where
  pub shared : IsSharedOut file most
  pub shows : GroupShows file most

-- The bases and the offers are those that were read. The gives are a least sharing of the offers over the bases, and
-- the group is what chains of moves reach from its busiest relays.
pub record IsPlannedFrom (read made : File) : Type 0 where
  pub bases : made.bases ≡ read.bases
  pub offers : made.offers ≡ read.offers
  pub most : ℕ
  pub least : IsLeast (base_in made.bases) (relay_in made.gives) made.offers most made.group
  pub passes : Passes made most

-- the text is of a file with these bases and offers, whose lines end at this place
pub record IsFront (text : List ℕ) (base : ℕ → ℕ) (offers : List (Id × List ℕ)) (end : ℕ) : Type 0 where
  pub file : File
  pub told : IsTextOf text file
  pub bases_are : (r : ℕ) → base r ≡ base_in file.bases r
  pub offers_are : file.offers ≡ offers
  pub front : take end text ≡ offers_text file.bases file.offers
  pub within : end ≤ length text

-- more ids are offered than a table takes
abbrev pub IsTooMany : File → Type 0
IsTooMany file = MOST_IDS < length file.offers

-- the number of what is wrong with a plan
abbrev pub HasNumber : PlanFault → ℕ → Type 0
HasNumber NotOffered number = number ≡ 3
HasNumber Missing number = number ≡ 4
HasNumber Stranger number = number ≡ 5
HasNumber GroupTooSmall number = number ≡ 6
HasNumber _ number = ⊥

-- the checker's fault has this number
abbrev pub IsRefusedAs : File → ℕ → Type 0
IsRefusedAs file number = (fault : PlanFault) × HasNumber fault number × Judges file (Err fault)
