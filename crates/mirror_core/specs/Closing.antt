-- Lanes that came back from their workers, and what a closed board tells.
use Rattle.std.specs.Prelude.{◌≡◌, ℕ, ◌<◌, List, [], ◌∷◌, ◌++◌, length, slice_index_or}
use Rattle.atomic_table.specs.Seated.{TableId}
use Rattle.item_key.specs.declared.Id.{Id}
use Rattle.fetch_plan.specs.declared.cell.Cell.{Cell}
use Rattle.fetch_plan.specs.declared.cell.Cell.TheVariants.{Free}
use Rattle.claim_board.specs.declared.records.LaneRecord.{LaneRecord}
use Rattle.claim_board.specs.Views.{LaneView, ClosedAs, Honest}

-- a lane of the board that holds nothing and stands for itself alone
abbrev pub IsBack : TableId → LaneView → Type 0
IsBack board p = (p.board ≡ board) × (p.own.held ≡ []) × (p.others ≡ [])

abbrev pub AllBack : TableId → List LaneView → Type 0
AllBack board [] = Unit {0}
AllBack board (p ∷ ps) = IsBack board p × AllBack board ps

-- the lanes' own lists, the last lane first
abbrev pub behind : List LaneView → List LaneRecord
behind [] = []
behind (p ∷ ps) = behind ps ++ p.own ∷ []

-- what each cell is, as told through the keeper
pub record Closed (cells : List (Id × ℕ)) (lanes : List ℕ) (keeper : LaneView) (found : List Cell) : Type 0 where
  pub len : length found ≡ length cells
  pub settled : (i : ℕ) → i < length cells → ClosedAs (length lanes) keeper i (slice_index_or found i Free)
  pub honest : Honest cells lanes keeper
