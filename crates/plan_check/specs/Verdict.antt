-- When a plan file's gives are a sharing that its group shows to be least, and why not.
use Rattle.std.specs.Prelude.{◌≡◌, ℕ, ◌+◌, ◌&&◌, ◌==◌, not, Bool, List, map, Option, Some, None, Result, Ok, Err, is_some, count_by, if◌then◌else◌}
use Rattle.std.specs.List.{list_any}
use Rattle.item_key.specs.declared.Id.{Id}
use Rattle.sharing.specs.Sharing.{is_among, load, IsSharing, IsGreatest, Shows}
use Rattle.sharing.specs.Bases.{base_in}
use Rattle.sharing.specs.Offers.{beside, relays_of, relay_in}
use Rattle.plan_check.specs.declared.faults.PlanFault.{PlanFault}
use Rattle.plan_check.specs.declared.faults.PlanFault.TheVariants.{NotOffered, Missing, Stranger, GroupTooSmall}
use Rattle.plan_check.specs.File.{File, IsFile}

-- some offered id is given to a relay that does not offer it
abbrev pub is_not_offered : File → Bool
is_not_offered file = list_any (λ g. is_some (beside file.offers g.0) && not (is_among (relays_of file.offers g.0) g.1)) file.gives

-- some offered id is not given
abbrev pub is_missing : File → Bool
is_missing file = list_any (λ o. not (is_some (beside file.gives o.0))) file.offers

-- some given id is not offered
abbrev pub is_stranger : File → Bool
is_stranger file = list_any (λ g. not (is_some (beside file.offers g.0))) file.gives

-- why the gives are no sharing of the offers
abbrev pub gives_fault : File → Option PlanFault
gives_fault file =
    if is_not_offered file then Some NotOffered
    else (if is_missing file then Some Missing
    else (if is_stranger file then Some Stranger else None))

-- the number of ids that are given to relay r
abbrev pub given_count : List (Id × ℕ) → ℕ → ℕ
given_count gives r = count_by (λ g. g.1 == r) gives

-- the load of relay r: what it begins with, and the ids that are given to it
abbrev pub given_load : List (ℕ × ℕ) → List (Id × ℕ) → ℕ → ℕ
given_load bases gives r = base_in bases r + given_count gives r

-- the gives are a sharing of the offers with this busiest load
pub record IsSharedOut (file : File) (most : ℕ) : Type 0 where
  pub ids : map (λ g. g.0) file.gives ≡ map (λ o. o.0) file.offers
  pub sharing : IsSharing (relay_in file.gives) file.offers
  pub greatest : IsGreatest (load (base_in file.bases) (relay_in file.gives) file.offers) most

-- the group shows that no sharing has less
abbrev pub GroupShows : File → ℕ → Type 0
GroupShows file most = Shows (base_in file.bases) file.group file.offers most

-- What the checker answers: the first fault of the gives; where there is none, the busiest load if the group shows it.
abbrev pub JudgesBy : Option PlanFault → File → Result ℕ PlanFault → Type 0
JudgesBy (Some f) file result = result ≡ Err f
JudgesBy None file (Ok most) = IsSharedOut file most × GroupShows file most
JudgesBy None file (Err f) = (f ≡ GroupTooSmall) × ((most : ℕ) → IsSharedOut file most → GroupShows file most → ⊥)

abbrev pub Judges : File → Result ℕ PlanFault → Type 0
Judges file result = JudgesBy (gives_fault file) file result

-- Where the gives are a sharing and the group shows its busiest load, the checker answers that load.
abbrev pub OneAnswer : Type 0
OneAnswer =
    (file : File) (most : ℕ) (answer : Result ℕ PlanFault)
    → IsFile file → IsSharedOut file most → GroupShows file most → Judges file answer → answer ≡ Ok most
