use Rattle.std.proofs.Common.{sym, ap, ◌∙◌, arith}
use Rattle.claim_board.specs.Rules.{relays}
use Rattle.claim_board.specs.Views.{BoardView}
use Rattle.claim_board.proofs.Cuts.{splits}
use Rattle.claim_board.proofs.board.Board.part.Goals as goal

pub split_seat-seat-requires : goal.split_seat-seat-requires
split_seat-seat-requires g c =
    let words = c.self.invariant.1 in (
      c.requires.board ∙ sym (ap (λ (z : BoardView). z.board) c.self.view_is),
      omega arith,
      splits (relays c.self.inside.table.shared.key.value.cells.items) c.self.inside.table.shared.key.value.lanes.items _ _,
    )
