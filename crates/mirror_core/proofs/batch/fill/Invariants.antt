use Rattle.std.proofs.Common.{◌≡◌, ◌<◌, ◌≤◌, ◌-◌, ◌⊎◌, length}
use Rattle.mirror_core.specs.Batches.{Batched, SameLane}
use Rattle.mirror_core.specs.Asked.{AreIdsOf}
use Rattle.mirror_core.proofs.batch.fill.Given as goal

abbrev pub invariant-loop-batch : goal.invariant-loop-batch
invariant-loop-batch g l = record {
  board : l.lane.board ≡ l.board.board;
  same : SameLane l.fn.lane l.lane;
  ended : l.lane.own.ended ≡ l.fn.lane.own.ended;
  batched : Batched l.board.cells l.batch.next l.batch.cells.items l.batch.ids.items l.lane.own;
  asked : AreIdsOf l.board.cells l.fn.lane.own.relay l.fn.next l.batch.next l.batch.ids.items;
  even : length l.batch.ids.items ≡ length l.batch.cells.items;
  room : (100 ≤ l.batch.cells.cap) × (100 ≤ l.batch.ids.cap);
  few : length l.batch.cells.items ≤ 100;
  next : (l.batch.next ≡ l.fn.next × length l.batch.cells.items ≡ 0) ⊎ (l.fn.next < l.batch.next);
}

abbrev pub decreases-loop-batch : goal.decreases-loop-batch
decreases-loop-batch g l = length l.board.cells - l.batch.next
