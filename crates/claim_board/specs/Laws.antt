-- What holds of the board at each step, in the words of its cells and lanes.
use Rattle.std.specs.Prelude.{◌≡◌, ◌⊎◌, ℕ, ◌<◌, List, length, slice_index, Contains}
use mathlib.Core.Logic.{◌↔◌}
use Rattle.atomic_table.specs.Table.{State}
use Rattle.fetch_plan.specs.declared.cell.Cell.{Cell}
use Rattle.fetch_plan.specs.declared.cell.Cell.TheVariants.{Held, Done, Missed}
use Rattle.claim_board.specs.declared.records.LaneRecord.{LaneRecord}
use Rattle.claim_board.specs.Rules.{word, cell_of, Stands, Kept}

-- what cell i is
abbrev pub cell_at : State ℕ (List LaneRecord) → ℕ → Cell
cell_at s i = cell_of (word s.words i)

pub record Sound (relays lanes : List ℕ) (s : State ℕ (List LaneRecord)) : Type 0 where
  -- a cell is held by a lane exactly where that lane's list has it
  pub held : (seat place : ℕ) (e : LaneRecord) → Stands s.views seat place e → (i : ℕ) → Contains e.held i ↔ (cell_at s i ≡ Held e.lane)
  -- then it is a cell of the lane's relay, whether the lane stands anywhere or not
  pub relay : (i w : ℕ) → cell_at s i ≡ Held w → (w < length lanes) × (slice_index lanes w ≡ slice_index relays i)
  -- and no other lane holds it
  pub alone : (seat place : ℕ) (e : LaneRecord) (seat' place' : ℕ) (f : LaneRecord) → Stands s.views seat place e → Stands s.views seat' place' f → (i : ℕ) → Contains e.held i → Contains f.held i → (seat ≡ seat') × (place ≡ place')
  -- a cell that is in a lane's list as ended is that
  pub ended : (seat place : ℕ) (e : LaneRecord) → Stands s.views seat place e → (i : ℕ) (c : Cell) → (c ≡ Done) ⊎ (c ≡ Missed) → Contains e.ended (i, c) → cell_at s i ≡ c
  -- an ended cell is in the list of the lane that ended it
  pub ender : (i : ℕ) (c : Cell) → (c ≡ Done) ⊎ (c ≡ Missed) → cell_at s i ≡ c → (w : ℕ) × (w < length lanes) × (slice_index lanes w ≡ slice_index relays i)
      × ((seat place : ℕ) (e : LaneRecord) → Stands s.views seat place e → e.lane ≡ w ↔ Contains e.ended (i, c))
  -- and in no other
  pub ended_once : (seat place : ℕ) (e : LaneRecord) (seat' place' : ℕ) (f : LaneRecord) → Stands s.views seat place e → Stands s.views seat' place' f → (i : ℕ) (c d : Cell) → (c ≡ Done) ⊎ (c ≡ Missed) → (d ≡ Done) ⊎ (d ≡ Missed)
      → Contains e.ended (i, c) → Contains f.ended (i, d) → (seat ≡ seat') × (place ≡ place')
  -- what was met as ended is that still, and what was met as held was won by that lane
  pub met : (seat place : ℕ) (e : LaneRecord) → Stands s.views seat place e → (i : ℕ) (c : Cell) → (c ≡ Done) ⊎ (c ≡ Missed) → Contains e.met (i, c) → cell_at s i ≡ c
  pub won : (seat place : ℕ) (e : LaneRecord) (seat' place' : ℕ) (f : LaneRecord) → Stands s.views seat place e → Stands s.views seat' place' f → (i : ℕ) → Contains e.met (i, Held f.lane) → Contains f.won i

-- the rule of the board says all of it
abbrev pub RuleIsSound : Type 0
RuleIsSound = (relays lanes : List ℕ) (s : State ℕ (List LaneRecord)) → Kept relays lanes s → Sound relays lanes s
