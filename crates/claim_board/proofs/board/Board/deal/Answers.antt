use Rattle.std.proofs.Common.{List, [], ◌∷◌, ◌++◌, sym, ap, ◌∙◌}
use Rattle.claim_board.specs.Steps.{others_of}
use Rattle.claim_board.specs.declared.records.LaneRecord.{LaneRecord}
use Rattle.claim_board.proofs.Deals.{next_dealt, dealt_more}
use Rattle.claim_board.proofs.board.Board.deal.Goals as goal

pub part-lane-requires-clause-board : goal.part-lane-requires-clause-board
part-lane-requires-clause-board g c = c.loop-i.invariant.board

pub part-lane-requires-clause-first : goal.part-lane-requires-clause-first
part-lane-requires-clause-first g c = (_, c.loop-i.invariant.rest ∙ ap (λ (z : List LaneRecord). (z, [])) (next_dealt c.args.lanes.now c.loop-i.i c.loop-i-test.true))

pub loop-i-preserved : goal.loop-i-preserved
loop-i-preserved g c = record {
  board = c.part-lane.ensures.board ∙ c.loop-i.invariant.board;
  rest = c.part-lane.ensures.rest ∙ ap (λ (z : List LaneRecord). (others_of z, [])) (ap (λ z. z.0) c.loop-i.invariant.rest ∙ next_dealt c.args.lanes.now c.loop-i.i c.loop-i-test.true);
  given = c.in_ok-push.ensures.items ∙ ((λ k. c.loop-i.invariant.given k ++ c.part-lane.ensures.lane k ∷ []) ∙ sym (dealt_more c.args.self.now.board c.args.lanes.now c.loop-i.i c.loop-i-test.true));
}
