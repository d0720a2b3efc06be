use Rattle.std.proofs.Common.{◌≡◌, [], map, take, drop}
use Rattle.claim_board.specs.Rules.{named}
use Rattle.claim_board.specs.Views.{placed_at}
use Rattle.claim_board.proofs.board.Board.deal.Given as goal

abbrev pub invariant-loop-i : goal.invariant-loop-i
invariant-loop-i g l = record {
  board : l.rest.table_id ≡ l.self.board;
  rest : l.rest.me ≡ (named l.i (drop l.i l.lanes), []);
  given : l.given.items ≡ map (placed_at l.self.board) (named 0 (take l.i l.lanes));
}
