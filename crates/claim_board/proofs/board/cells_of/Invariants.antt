use Rattle.std.proofs.Common.{◌≡◌, take}
use Rattle.claim_board.proofs.board.cells_of.Given as goal

abbrev pub invariant-loop-i : goal.invariant-loop-i
invariant-loop-i l = record { upto : l.cells.items ≡ take l.i l.plan.gives }
