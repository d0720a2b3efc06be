-- The board and its lanes as contracts see them, and what each call does to a lane.
use Rattle.std.specs.Prelude.{◌≡◌, ◌≢◌, ℕ, ◌<◌, List, [], ◌∷◌, ◌++◌, length, slice_index, Contains}
use mathlib.Core.Option.{some}
use lib.ListN.{get_elem?}
use Rattle.atomic_table.specs.Seated.{TableId}
use Rattle.item_key.specs.declared.Id.{Id}
use Rattle.fetch_plan.specs.declared.cell.Cell.{Cell}
use Rattle.fetch_plan.specs.declared.cell.Cell.TheVariants.{Free, Held, Done, Missed}
use Rattle.claim_board.specs.declared.records.Claimed.{Claimed}
use Rattle.claim_board.specs.declared.records.Claimed.TheVariants.{Won, Lost}
use Rattle.claim_board.specs.declared.records.LaneRecord.{LaneRecord}
use Rattle.claim_board.specs.Rules.{relays}
use Rattle.claim_board.specs.Steps.{Knows, with_won, with_met}

-- which board it is, its cells, each an id and a relay, and the relay of each lane
pub record BoardView : Type 0 where
  pub board : TableId
  pub cells : List (Id × ℕ)
  pub lanes : List ℕ

-- a lane of a board, and the lanes that it stands for since they left
pub record LaneView : Type 0 where
  pub board : TableId
  pub own : LaneRecord
  pub others : List LaneRecord

-- what a claim of cell i by e answers, which is f afterwards: the cell is won, or met as it was found
abbrev pub Claims : ℕ → LaneRecord → Claimed → LaneRecord → Type 0
Claims i e Won f = (f ≡ with_won i e) × ((k : Cell) → Knows e i k → Free ≡ k)
Claims i e (Lost c) f = (c ≢ Free) × (f ≡ with_met i c e) × ((k : Cell) → Knows e i k → c ≡ k)

-- a look at cell i by e, which finds c and is f afterwards
abbrev pub Sees : ℕ → LaneRecord → Cell → LaneRecord → Type 0
Sees i e c f = (c ≡ Free → f ≡ e) × (c ≢ Free → f ≡ with_met i c e) × ((k : Cell) → Knows e i k → c ≡ k)

-- a lane of the board that stands for itself alone
abbrev pub placed_at : TableId → LaneRecord → LaneView
placed_at board e = record { board = board; own = e; others = [] }

-- a lane once it stands for another's too
abbrev pub joined : LaneView → LaneView → LaneView
joined p q = record { board = p.board; own = p.own; others = p.others ++ q.own ∷ q.others }

-- the view of a place
abbrev pub all_of : LaneView → List LaneRecord
all_of p = p.own ∷ p.others

-- what cell i is, as a closed board tells it through a place: held or ended by a lane for which the place doesn't stand, or as the lists of the place say
pub record ClosedAs (lanes : ℕ) (p : LaneView) (i : ℕ) (c : Cell) : Type 0 where
  pub held : (w : ℕ) → c ≡ Held w → (w < lanes) × ((place : ℕ) (f : LaneRecord) → get_elem? (all_of p) place ≡ some f → f.lane ≢ w)
  pub done : c ≡ Done → (w : ℕ) × (w < lanes) × ((place : ℕ) (f : LaneRecord) → get_elem? (all_of p) place ≡ some f → f.lane ≡ w → Contains f.ended (i, Done))
  pub missed : c ≡ Missed → (w : ℕ) × (w < lanes) × ((place : ℕ) (f : LaneRecord) → get_elem? (all_of p) place ≡ some f → f.lane ≡ w → Contains f.ended (i, Missed))
  pub told : (k : Cell) (place : ℕ) (f : LaneRecord) → get_elem? (all_of p) place ≡ some f → Knows f i k → c ≡ k

-- the place stands for all lanes
abbrev pub IsWhole : ℕ → LaneView → Type 0
IsWhole lanes p = (w : ℕ) → w < lanes → (place : ℕ) × (f : LaneRecord) × (get_elem? (all_of p) place ≡ some f) × (f.lane ≡ w)

-- what a lane of the place met as held is a lane of the cell's relay, and one of the place won it
pub record Honest (cells : List (Id × ℕ)) (lanes : List ℕ) (p : LaneView) : Type 0 where
  pub lane : (place : ℕ) (e : LaneRecord) → get_elem? (all_of p) place ≡ some e → (i w : ℕ) → Contains e.met (i, Held w) → (w < length lanes) × (slice_index lanes w ≡ slice_index (relays cells) i)
  pub won : (place : ℕ) (e : LaneRecord) (place' : ℕ) (f : LaneRecord) → get_elem? (all_of p) place ≡ some e → get_elem? (all_of p) place' ≡ some f → (i : ℕ) → Contains e.met (i, Held f.lane) → Contains f.won i
