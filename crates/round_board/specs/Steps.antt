-- A lane's step on the word of a cell, beside a round's event on that cell.
use Rattle.std.specs.Prelude.{◌≡◌, ℕ, ◌+◌, ◌<◌, ◌==◌, true, cond, List, length, slice_index, Contains}
use Rattle.atomic_table.specs.Table.{State}
use Rattle.fetch_plan.specs.declared.cell.Cell.{Cell}
use Rattle.claim_board.specs.declared.records.LaneRecord.{LaneRecord}
use Rattle.claim_board.specs.Rules.{word, cell_of, held_by, done_by, missed_by, Stands, Kept}
use Rattle.round_core.specs.declared.events.RoundEvent.{RoundEvent}
use Rattle.round_core.specs.declared.events.RoundEvent.TheVariants.{Claim, Finish, Miss, Release}
use Rattle.round_core.specs.declared.events.Answer.{Answer}
use Rattle.round_core.specs.declared.events.Answer.TheVariants.{Won, Lost, Finished, MissedIt, Released}
use Rattle.round_core.specs.History.{changes, left_cell}
use Rattle.round_core.specs.Legal.{barred, or_refused, claim_answer, end_answer, finish_answer}

-- The round answers what the board tells. With that answer its event leaves of cell i, which was what the word n says, what
-- the word says that the board's step leaves.
pub record Agrees (i n : ℕ) (event : RoundEvent) (said told : Answer) (left : ℕ) : Type 0 where
  pub answer : said ≡ told
  pub cell : cond (changes i event told) (left_cell event told) (cell_of n) ≡ cell_of left

-- In a round whose last plan has cells of these relays, the first of them numbered `first`, lane w is of the relay of the plan's cell i.
module _ (relays lanes : List ℕ) (first w i : ℕ) where
  -- the round's answer, if nothing bars the lane from the cell
  abbrev pub unbarred : Answer → Answer
  unbarred a = or_refused (barred true lanes first (first + length relays) (slice_index relays i) w (first + i)) a

  -- A claim finds the word n. Where that is free, it is won, and names the lane as holder; else it stays, and is told.
  abbrev pub ClaimAgrees : ℕ → Type 0
  ClaimAgrees n = Agrees (first + i) n (Claim w (first + i)) (unbarred (claim_answer (cell_of n))) (cond (n == 0) Won (Lost (cell_of n))) (cond (n == 0) (held_by w) n)

  -- The ends of a holding, of which finish is of an id that is placed.
  pub record EndsAgree (n : ℕ) : Type 0 where
    pub finish : Agrees (first + i) n (Finish w (first + i)) (unbarred (end_answer (cell_of n) w (finish_answer true))) Finished (done_by w)
    pub miss : Agrees (first + i) n (Miss w (first + i)) (unbarred (end_answer (cell_of n) w MissedIt)) MissedIt (missed_by w)
    pub release : Agrees (first + i) n (Release w (first + i)) (unbarred (end_answer (cell_of n) w Released)) Released 0

-- In every state that the board's rule allows, for each lane of a view and each cell of its relay, wherever the cells of the plan begin
-- in the round. What the calls ask of a lane
-- that ends a holding is that its list has the cell.
abbrev pub StepsAgree : Type 0
StepsAgree = (relays lanes : List ℕ) (s : State ℕ (List LaneRecord)) → Kept relays lanes s → (seat place : ℕ) (e : LaneRecord) → Stands s.views seat place e → (first i : ℕ) → i < length relays → e.relay ≡ slice_index relays i
    → ClaimAgrees relays lanes first e.lane i (word s.words i) × (Contains e.held i → EndsAgree relays lanes first e.lane i (word s.words i))
