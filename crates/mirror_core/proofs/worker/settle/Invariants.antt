use Rattle.std.proofs.Common.{◌≡◌, drop}
use Rattle.event_source.specs.Fetching.{ids_of}
use Rattle.mirror_core.specs.Batches.{Batched, SameLane, Settles}
use Rattle.mirror_core.proofs.worker.settle.Given as goal

abbrev pub invariant-loop-k : goal.invariant-loop-k
invariant-loop-k g l = record {
  board : l.lane.board ≡ l.board.board;
  same : SameLane l.fn.lane l.lane;
  settles : Settles l.board.cells l.batch.ids.items (ids_of l.given) l.fn.lane.own l.lane.own;
  batched : Batched l.board.cells l.batch.next (drop l.k l.batch.cells.items) l.batch.ids.items l.lane.own;
}
