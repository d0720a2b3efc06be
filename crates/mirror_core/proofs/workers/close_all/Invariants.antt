use Rattle.std.proofs.Common.{◌≡◌, ◌++◌, [], length}
use Rattle.mirror_core.specs.Closing.{AllBack, behind}
use Rattle.claim_board.specs.Views.{all_of}
use Rattle.mirror_core.proofs.workers.close_all.Given as goal

abbrev pub invariant-loop-lane : goal.invariant-loop-lane
invariant-loop-lane g l = record {
  board : l.keeper.board ≡ l.board.board;
  held : l.keeper.own.held ≡ [];
  back : AllBack l.board.board l.lanes.items;
  whole : all_of l.keeper ++ behind l.lanes.items ≡ behind l.fn.lanes.items;
}

abbrev pub decreases-loop-lane : goal.decreases-loop-lane
decreases-loop-lane g l = length l.lanes.items
