use Rattle.std.proofs.Common.{◌≡◌, ◌<◌, ℕ, length, drop}
use Rattle.std.specs.Prelude.{Contains}
use Rattle.mirror_core.specs.Batches.{Holds, SameLane}
use Rattle.mirror_core.proofs.batch.release_from.Given as goal

abbrev pub invariant-loop-k : goal.invariant-loop-k
invariant-loop-k g l = record {
  board : l.lane.board ≡ l.board.board;
  same : SameLane l.fn.lane l.lane;
  ended : l.lane.own.ended ≡ l.fn.lane.own.ended;
  holds : Holds (drop l.k l.cells) l.lane.own;
  within : (i : ℕ) → Contains (drop l.k l.cells) i → i < length l.board.cells;
}
