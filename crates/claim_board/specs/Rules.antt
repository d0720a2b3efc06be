-- The words of the board, what a view says of its lanes, and the rule that ties them.
-- Word 0 is spare, and word i + 1 is cell i: 0 where it is free, and else four times a lane, and 1 where that lane holds it, 2 where it ended it as done, 3 as missed.
use Rattle.std.specs.Prelude.{◌≡◌, ◌⊎◌, ℕ, suc, ◌+◌, ◌*◌, ◌/◌, ◌%◌, ◌<◌, ◌≤◌, ◌==◌, cond, List, [], ◌∷◌, map, length, slice_index, slice_get, Some, Contains}
use mathlib.Core.Option.{some}
use mathlib.Core.Logic.{◌↔◌}
use lib.ListN.{get_elem?}
use Rattle.atomic_table.specs.Table.{State}
use Rattle.item_key.specs.declared.Id.{Id}
use Rattle.fetch_plan.specs.declared.cell.Cell.{Cell}
use Rattle.fetch_plan.specs.declared.cell.Cell.TheVariants.{Free, Held, Done, Missed}
use Rattle.claim_board.specs.declared.records.LaneRecord.{LaneRecord}

-- the relay of each cell
abbrev pub relays : List (Id × ℕ) → List ℕ
relays cells = map (λ (c : Id × ℕ). c.1) cells

-- cell i has this id
abbrev pub IsIdOf : List (Id × ℕ) → ℕ → Id → Type 0
IsIdOf cells i id = (relay : ℕ) × (slice_get cells i ≡ Some (id, relay))

abbrev pub held_by : ℕ → ℕ
held_by w = 4 * w + 1

abbrev pub done_by : ℕ → ℕ
done_by w = 4 * w + 2

abbrev pub missed_by : ℕ → ℕ
missed_by w = 4 * w + 3

-- the word of cell i
abbrev pub word : List ℕ → ℕ → ℕ
word words i = slice_index words (i + 1)

-- what a word says of its cell
abbrev pub cell_of : ℕ → Cell
cell_of n = cond (n == 0) Free (cond (n % 4 == 1) (Held (n / 4)) (cond (n % 4 == 2) Done Missed))

-- a lane with empty lists
abbrev pub fresh : ℕ → ℕ → LaneRecord
fresh lane relay = record { lane = lane; relay = relay; held = []; ended = []; won = []; met = [] }

-- lanes with empty lists, one for each relay, numbered from n on
abbrev pub named : ℕ → List ℕ → List LaneRecord
named n [] = []
named n (r ∷ rs) = fresh n r ∷ named (suc n) rs

-- at that place of the view of that seat stands e
abbrev pub Stands : List (List LaneRecord) → ℕ → ℕ → LaneRecord → Type 0
Stands views seat place e = (v : List LaneRecord) × (get_elem? views seat ≡ some v) × (get_elem? v place ≡ some e)

-- a word is 0, or names a lane of the cell's relay
abbrev pub Names : List ℕ → List ℕ → ℕ → ℕ → Type 0
Names relays lanes i n = (n ≡ 0) ⊎ ((w : ℕ) × (w < length lanes) × (slice_index lanes w ≡ slice_index relays i) × ((n ≡ held_by w) ⊎ ((n ≡ done_by w) ⊎ (n ≡ missed_by w))))

-- the word n of cell i names the lane of e as holder or ender exactly where its lists do
pub record Tells (i n : ℕ) (e : LaneRecord) : Type 0 where
  pub held : Contains e.held i ↔ (n ≡ held_by e.lane)
  pub done : Contains e.ended (i, Done) ↔ (n ≡ done_by e.lane)
  pub missed : Contains e.ended (i, Missed) ↔ (n ≡ missed_by e.lane)

-- what was met stands: a cell met as ended has that word, and one met as held by w is among those that w ever won
pub record Stays (words : List ℕ) (views : List (List LaneRecord)) (e : LaneRecord) : Type 0 where
  pub done : (i : ℕ) → Contains e.met (i, Done) → (w : ℕ) × (word words i ≡ done_by w)
  pub missed : (i : ℕ) → Contains e.met (i, Missed) → (w : ℕ) × (word words i ≡ missed_by w)
  pub held : (i w : ℕ) → Contains e.met (i, Held w) → (seat place : ℕ) (f : LaneRecord) → Stands views seat place f → f.lane ≡ w → Contains f.won i

-- what a view says of one lane is well made
pub record Fits (relays lanes : List ℕ) (e : LaneRecord) : Type 0 where
  pub lane : e.lane < length lanes
  pub relay : e.relay ≡ slice_index lanes e.lane
  pub held : (i : ℕ) → Contains e.held i → Contains e.won i
  pub ended : (i : ℕ) (c : Cell) → Contains e.ended (i, c) → Contains e.won i
  pub met : (i w : ℕ) → Contains e.met (i, Held w) → (w < length lanes) × (slice_index lanes w ≡ slice_index relays i)

pub record Kept (relays lanes : List ℕ) (s : State ℕ (List LaneRecord)) : Type 0 where
  pub wide : length s.words ≡ length relays + 1
  pub few : length lanes ≤ 1024
  pub names : (i : ℕ) → Names relays lanes i (word s.words i)
  pub fits : (seat place : ℕ) (e : LaneRecord) → Stands s.views seat place e → Fits relays lanes e
  pub tells : (seat place : ℕ) (e : LaneRecord) → Stands s.views seat place e → (i : ℕ) → Tells i (word s.words i) e
  pub apart : (seat place : ℕ) (e : LaneRecord) (seat' place' : ℕ) (f : LaneRecord) → Stands s.views seat place e → Stands s.views seat' place' f → e.lane ≡ f.lane → (seat ≡ seat') × (place ≡ place')
  pub stays : (seat place : ℕ) (e : LaneRecord) → Stands s.views seat place e → Stays s.words s.views e
