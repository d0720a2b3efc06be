use Rattle.std.proofs.Common.{◌≡◌, [], ◌-◌, length}
use Rattle.mirror_core.specs.Batches.{Batched, SameLane}
use Rattle.mirror_core.specs.Working.{Logs}
use Rattle.mirror_core.proofs.Asked.{Asked}
use Rattle.mirror_core.proofs.worker.work_lane.Given as goal

abbrev pub invariant-loop-next : goal.invariant-loop-next
invariant-loop-next g l = record {
  board : l.lane.board ≡ l.board.board;
  same : SameLane l.fn.lane l.lane;
  batched : Batched l.board.cells l.next [] [] l.lane.own;
  asked : Asked l.board.cells l.lane.own.relay l.next (g.S.Source.log l.fn.source) (g.S.Source.log l.source);
  logs : Logs l.board.cells l.fn.lane.own l.lane.own (g.S.Source.log l.fn.source) (g.S.Source.log l.source);
  faults : g.S.Source.faults l.source ≡ g.S.Source.faults l.fn.source;
  becomes : g.S.Source.becomes l.fn.source l.source;
}

abbrev pub decreases-loop-next : goal.decreases-loop-next
decreases-loop-next g l = length l.board.cells - l.next
