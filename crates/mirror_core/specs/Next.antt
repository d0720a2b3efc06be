-- What a next round's plan is made of.
use Rattle.std.specs.Prelude.{◌≡◌, ℕ, zero, suc, ◌+◌, ◌<◌, ◌==◌, ◌&&◌, Bool, true, false, if◌then◌else◌, List, length, slice_index_or}
use Rattle.item_key.specs.declared.Id.{Id}
use Rattle.sharing.specs.Bases.{base_of}
use Rattle.sharing.specs.Sharing.{is_among, NoneSmaller}
use Rattle.sharing.specs.Offers.{relays_of, StandsFor}
use Rattle.fetch_plan.specs.Plan.{Planned, IsPlanOf}
use Rattle.fetch_plan.specs.LeftOut.{no_give, leaves_out}
use Rattle.fetch_plan.specs.declared.cell.Cell.{Cell}
use Rattle.fetch_plan.specs.declared.cell.Cell.TheVariants.{Free, Done, Missed}

-- relay r offered the id, and no cell leaves that out
pub record IsLeft (offers : List (Id × List ℕ)) (gives : List (Id × ℕ)) (cells : List Cell) (r : ℕ) (i : Id) : Type 0 where
  pub offered : is_among (relays_of offers i) r ≡ true
  pub kept : (k : ℕ) → k < length gives → leaves_out (slice_index_or cells k Free) (slice_index_or gives k no_give) r i ≡ false

-- a least plan, over these bases, of just the offers that are left
pub record IsNextPlan (bases : List ℕ) (old : List (Id × List ℕ)) (gives : List (Id × ℕ)) (cells : List Cell) (new : List (Id × List ℕ)) (plan : Planned) : Type 0 where
  pub left : StandsFor new (IsLeft old gives cells)
  pub planned : IsPlanOf bases new plan
  pub least : NoneSmaller (base_of bases) new plan.least_max

-- some offers less, but all that are left
pub record IsLess (old : List (Id × List ℕ)) (gives : List (Id × ℕ)) (cells : List Cell) (new : List (Id × List ℕ)) : Type 0 where
  pub sound : (r : ℕ) (i : Id) → is_among (relays_of new i) r ≡ true → is_among (relays_of old i) r ≡ true
  pub whole : (r : ℕ) (i : Id) → IsLeft old gives cells r i → is_among (relays_of new i) r ≡ true

-- the cell's relay was asked for its id, and gave it or didn't
abbrev pub is_asked : Cell → Bool
is_asked Done = true
is_asked Missed = true
is_asked c = false

-- how many of the first n ids of a plan relay r was asked for
abbrev pub asked_of : List (Id × ℕ) → List Cell → ℕ → ℕ → ℕ
asked_of gives cells r zero = 0
asked_of gives cells r (suc n) =
    asked_of gives cells r n + (if is_asked (slice_index_or cells n Free) && (r == (slice_index_or gives n no_give).1) then 1 else 0)
