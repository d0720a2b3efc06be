use Rattle.std.proofs.Common.{ℕ, List, sym, ap, ◌∙◌, arith}
use Rattle.atomic_table.specs.Table.{Me}
use Rattle.claim_board.specs.Rules.{relays}
use Rattle.claim_board.specs.declared.records.LaneRecord.{LaneRecord}
use Rattle.claim_board.specs.Views.{BoardView, LaneView}
use Rattle.claim_board.proofs.Cuts.{joins}
use Rattle.claim_board.proofs.Lanes.{after_join}
use Rattle.claim_board.proofs.board.Board.leave.Goals as goal

pub join_seat-requires : goal.join_seat-requires
join_seat-requires g c =
    let board = ap (λ (z : BoardView). z.board) c.self.view_is in
    let words = c.self.invariant.1 in (
      ap (λ (z : LaneView). z.board) c.keeper.view_is ∙ (c.requires.board.0 ∙ sym board),
      ap (λ (z : LaneView). z.board) c.lane.view_is ∙ (c.requires.board.1 ∙ sym board),
      ap (λ (z : Me ℕ (List LaneRecord)). z.1) c.lane.invariant.0,
      omega arith,
      joins (relays c.self.inside.table.shared.key.value.cells.items) c.self.inside.table.shared.key.value.lanes.items _ _ _ _,
    )

pub invariant_of-keeper : goal.invariant_of-keeper
invariant_of-keeper g c = (after_join _ _ _ _ _ _ _ c.keeper.invariant c.lane.invariant (ap (λ (z : LaneView). z.own.held) c.lane.view_is ∙ c.requires.nothing) c.join_seat.ensures.2).1
