use Rattle.std.proofs.Common.{◌≡◌, ◌++◌, ℕ, List, [], sym, ap, ◌∙◌, subst, arith}
use Rattle.std.specs.Prelude.{Contains}
use Rattle.atomic_table.specs.Table.{Me}
use Rattle.claim_board.specs.Rules.{relays}
use Rattle.claim_board.specs.declared.records.LaneRecord.{LaneRecord}
use Rattle.claim_board.specs.Views.{BoardView, LaneView}
use Rattle.claim_board.proofs.Cuts.{joins, splits}
use Rattle.claim_board.specs.Steps.{HeldOnce, others_of}
use Rattle.claim_board.proofs.Apart.{compares, no_cell_twice}
use Rattle.claim_board.proofs.board.Board.hold_apart.Goals as goal

pub join_seat-requires : goal.join_seat-requires
join_seat-requires g c =
    let board = ap (λ (z : BoardView). z.board) c.self.view_is in
    let words = c.self.invariant.1 in (
      ap (λ (z : LaneView). z.board) c.other.view_is ∙ (c.requires.board.1 ∙ sym board),
      ap (λ (z : LaneView). z.board) c.lane.view_is ∙ (c.requires.board.0 ∙ sym board),
      ap (λ (z : Me ℕ (List LaneRecord)). z.1) c.lane.invariant.0,
      omega arith,
      joins (relays c.self.inside.table.shared.key.value.cells.items) c.self.inside.table.shared.key.value.lanes.items _ _ _ _,
    )

pub load-requires : goal.load-requires
load-requires g c =
    let board = ap (λ (z : BoardView). z.board) c.self.view_is in
    let words = c.self.invariant.1 in (
      c.join_seat.ensures.0 ∙ (ap (λ (z : LaneView). z.board) c.other.view_is ∙ (c.requires.board.1 ∙ sym board)),
      omega arith,
      compares (relays c.self.inside.table.shared.key.value.cells.items) c.self.inside.table.shared.key.value.lanes.items _ _ _,
    )

pub split_seat-own-requires : goal.split_seat-own-requires
split_seat-own-requires g c =
    let board = ap (λ (z : BoardView). z.board) c.self.view_is in
    let words = c.self.invariant.1 in (
      c.load.ensures.0 ∙ (c.join_seat.ensures.0 ∙ (ap (λ (z : LaneView). z.board) c.other.view_is ∙ (c.requires.board.1 ∙ sym board))),
      omega arith,
      splits (relays c.self.inside.table.shared.key.value.cells.items) c.self.inside.table.shared.key.value.lanes.items _ _,
    )

pub returns-clause-apart : goal.returns-clause-apart
returns-clause-apart g c = λ i mine yours.
    let once : HeldOnce c.join_seat.new.seat.me.0 = c.load.ensures.2.1 in
    let both : c.join_seat.new.seat.me.0 ≡ c.other.inside.seat.me.0 ++ c.lane.inside.seat.me.0 = ap (λ (z : Me ℕ (List LaneRecord)). z.0) c.join_seat.ensures.2 in
    let alone : others_of c.other.inside.seat.me.0 ≡ [] = ap (λ (z : LaneView). z.others) c.other.view_is ∙ c.requires.alone in
    no_cell_twice c.lane.inside.seat.me c.other.inside.seat.me _ _ _ _ c.lane.invariant c.other.invariant alone (subst HeldOnce both once) i
    (subst (λ (z : LaneView). Contains z.own.held i) (sym c.lane.view_is) mine) (subst (λ (z : LaneView). Contains z.own.held i) (sym c.other.view_is) yours)
