use Rattle.round_board.proofs.Steps.{steps_agree}
use Rattle.round_board.proofs.words_are_cells.Goals as goal

pub returns : goal.returns
returns c = steps_agree
