-- Parts of a plan text, and lines by what they tell.
use Rattle.std.specs.Prelude.{◌≡◌, ◌≢◌, ℕ, ◌<◌, ◌⊎◌, true, Bool, List, [], ◌∷◌, ◌++◌, length, map, All, Option, None}
use Rattle.std.specs.declared.cmp.Ordering.{Ordering}
use Rattle.std.specs.Ordering.{nat_cmp}
use Rattle.item_key.specs.declared.Id.{Id}
use Rattle.sharing.specs.declared.TheConstants.{RELAYS}
use Rattle.sharing.specs.Offers.{id_cmp, Ascend, AreRelays}
use Rattle.plan_check.specs.File.{IsBase}
use Rattle.plan_check.specs.Lines.{first_out, rises}
use Rattle.plan_check.specs.TextLines.{ended, FirstIsNot}
use Rattle.plan_check.specs.PlanText.{relays_text, header_line, base_line, offer_line, give_line, group_line, IsOffer, IsGive}

-- nothing is left, or a space comes
abbrev pub IsNextWord : List ℕ → Type 0
IsNextWord rest = FirstIsNot (λ b. b ≢ 32) rest

-- the text tells relays
abbrev pub AreRelaysText : List ℕ → Type 0
AreRelaysText text = (relays : List ℕ) × All (λ r. r < RELAYS) relays × (text ≡ relays_text relays)

-- the line tells a record of this kind
abbrev pub IsLineOf : {X : Type 0} → (X → List ℕ) → (X → Type 0) → List ℕ → Type 0
IsLineOf {X} line IsIt l = (x : X) × IsIt x × (l ≡ ended (line x))

abbrev pub IsBaseLine : List ℕ → Type 0
IsBaseLine line = IsLineOf base_line IsBase line

abbrev pub IsOfferLine : List ℕ → Type 0
IsOfferLine line = IsLineOf offer_line IsOffer line

abbrev pub IsGiveLine : List ℕ → Type 0
IsGiveLine line = IsLineOf give_line IsGive line

abbrev pub IsGroupLine : List ℕ → Type 0
IsGroupLine line = IsLineOf group_line (All (λ r. r < RELAYS)) line

-- The lines begin with records of one kind, all that come: so many, the first out of order at this place.
pub record IsRun (X K : Type 0) (c : K → K → Ordering) (key : X → K) (is_fine : X → Bool) (line : X → List ℕ) (IsIt : X → Type 0) (lines rest : List (List ℕ)) (count : ℕ) (out : Option ℕ) : Type 0 where
  pub records : List X
  pub form : All IsIt records
  pub told : lines ≡ map (λ x. ended (line x)) records ++ rest
  pub counted : length records ≡ count
  pub first : out ≡ first_out c key is_fine None 0 records
  pub last : FirstIsNot (IsLineOf line IsIt) rest

abbrev pub AreBaseLines : List (List ℕ) → List (List ℕ) → ℕ → Option ℕ → Type 0
AreBaseLines lines rest count out = IsRun (ℕ × ℕ) ℕ nat_cmp (λ b. b.0) (λ _. true) base_line IsBase lines rest count out

abbrev pub AreOfferLines : List (List ℕ) → List (List ℕ) → ℕ → Option ℕ → Type 0
AreOfferLines lines rest count out = IsRun (Id × List ℕ) Id id_cmp (λ o. o.0) (λ o. rises o.1) offer_line IsOffer lines rest count out

abbrev pub AreGiveLines : List (List ℕ) → List (List ℕ) → ℕ → Option ℕ → Type 0
AreGiveLines lines rest count out = IsRun (Id × ℕ) Id id_cmp (λ g. g.0) (λ _. true) give_line IsGive lines rest count out

-- The lines begin with a header and the bases that it announces: so many, the first out of order at this place.
pub record IsHead (lines rest : List (List ℕ)) (count : ℕ) (out : Option ℕ) : Type 0 where
  pub bases : List (ℕ × ℕ)
  pub form : All IsBase bases
  pub told : lines ≡ ended (header_line bases) ∷ (map (λ b. ended (base_line b)) bases ++ rest)
  pub counted : length bases ≡ count
  pub first : out ≡ first_out nat_cmp (λ b. b.0) (λ _. true) None 0 bases
  pub last : (bases ≡ []) ⊎ FirstIsNot IsBaseLine rest

-- the lines are gives and a group, in order
pub record IsTail (lines : List (List ℕ)) : Type 0 where
  pub gives : List (Id × ℕ)
  pub group : List ℕ
  pub form : All IsGive gives
  pub ascend : Ascend (map (λ g. g.0) gives)
  pub relays : AreRelays group
  pub told : lines ≡ map (λ g. ended (give_line g)) gives ++ ended (group_line group) ∷ []
