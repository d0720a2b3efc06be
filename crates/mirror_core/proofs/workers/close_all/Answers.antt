use Rattle.std.proofs.Common.{rules, ◌≡◌, ◌∙◌, List, ◌++◌, [], ◌∷◌, sym, ap, subst}
use Rattle.claim_board.specs.Views.{LaneView, all_of}
use Rattle.mirror_core.specs.Closing.{AllBack, behind}
use Rattle.mirror_core.proofs.Behind.{back_split, behind_last, behind_more}
use Rattle.mirror_core.proofs.workers.close_all.Goals as goal

pub loop-lane-init : goal.loop-lane-init
loop-lane-init g c =
    let popped : c.args.lanes.items ≡ c.pop.new.self.items ++ c.in_ok-keeper.keeper ∷ [] = search rules in
    let back = back_split _ _ _ (subst (AllBack c.args.board.board) popped c.requires) in
    record { board = back.1.0; held = back.1.1; back = back.0; whole = ap (λ z. (c.in_ok-keeper.keeper.own ∷ (z ++ behind c.pop.new.self.items))) back.1.2 ∙ (sym (behind_last c.pop.new.self.items c.in_ok-keeper.keeper) ∙ sym (ap behind popped)) }

pub leave-requires-clause-board : goal.leave-requires-clause-board
leave-requires-clause-board g c =
    let popped : c.loop-lane.lanes.items ≡ c.pop-in-loop-lane.new.self.items ++ c.in-Some.lane ∷ [] = search rules in
    let back = back_split _ _ _ (subst (AllBack c.args.board.board) popped c.loop-lane.invariant.back) in
    (c.loop-lane.invariant.board, back.1.0)

pub leave-requires-clause-nothing : goal.leave-requires-clause-nothing
leave-requires-clause-nothing g c =
    let popped : c.loop-lane.lanes.items ≡ c.pop-in-loop-lane.new.self.items ++ c.in-Some.lane ∷ [] = search rules in
    (back_split _ _ _ (subst (AllBack c.args.board.board) popped c.loop-lane.invariant.back)).1.1

pub loop-lane-preserved : goal.loop-lane-preserved
loop-lane-preserved g c =
    let popped : c.loop-lane.lanes.items ≡ c.pop-in-loop-lane.new.self.items ++ c.in-Some.lane ∷ [] = search rules in
    let back = back_split _ _ _ (subst (AllBack c.args.board.board) popped c.loop-lane.invariant.back) in
    let left = c.leave.ensures in
    record {
      board = ap (λ (z : LaneView). z.board) left ∙ c.loop-lane.invariant.board;
      held = ap (λ (z : LaneView). z.own.held) left ∙ c.loop-lane.invariant.held;
      back = back.0;
      whole = ap (λ (z : LaneView). all_of z ++ behind c.pop-in-loop-lane.new.self.items) left
          ∙ behind_more c.loop-lane.keeper c.in-Some.lane c.pop-in-loop-lane.new.self.items _ back.1.2 (subst (λ (z : List LaneView). all_of c.loop-lane.keeper ++ behind z ≡ behind c.args.lanes.items) popped c.loop-lane.invariant.whole);
    }
