use Rattle.std.proofs.Common.{length, ℕ, List, sym, ap, ◌∙◌, arith, refl, subst}
use Rattle.std.specs.Prelude.{Contains}
use Rattle.atomic_table.specs.Table.{Me}
use Rattle.claim_board.specs.declared.records.LaneRecord.{LaneRecord}
use Rattle.claim_board.specs.Steps.{own_of, others_of, with_released}
use Rattle.claim_board.specs.Views.{BoardView, LaneView}
use Rattle.claim_board.proofs.Lanes.{may_release, after_release, seated}
use Rattle.claim_board.proofs.board.Board.release.Goals as goal

pub swap-requires : goal.swap-requires
swap-requires g c =
    let board = c.self.view_is in
    let lane = c.lane.view_is in
    let cells = ap (λ (z : BoardView). length z.cells) board in
    let words = c.self.invariant.1 in
    let low = c.requires.cell.0 in (
      ap (λ (z : LaneView). z.board) lane ∙ (c.requires.board ∙ sym (ap (λ (z : BoardView). z.board) board)),
      omega arith,
      may_release _ _ c.self.invariant.0 _ _ _ _ _ _ c.lane.invariant (omega arith) (subst (λ (z : LaneView). Contains z.own.held c.args.cell) (sym lane) c.requires.cell.1),
    )

pub invariant_of-lane : goal.invariant_of-lane
invariant_of-lane g c = let t = after_release _ _ _ _ _ c.lane.invariant c.swap.ensures.2 in seated _ _ _ _ _ c.lane.invariant t refl refl

pub returns : goal.returns
returns g c = let t = after_release _ _ _ _ _ c.lane.invariant c.swap.ensures.2 in
    let v = c.lane.view_is in
    λ k. record {
      board = (c.swap.ensures.0 ∙ ap (λ (z : LaneView). z.board) v) k;
      own = (ap (λ (z : Me ℕ (List LaneRecord)). own_of z.0) t ∙ ap (λ (z : LaneView). with_released c.args.cell z.own) v) k;
      others = (ap (λ (z : Me ℕ (List LaneRecord)). others_of z.0) t ∙ ap (λ (z : LaneView). z.others) v) k;
    }
