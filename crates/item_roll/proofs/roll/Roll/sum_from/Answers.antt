use Rattle.std.proofs.Common.{◌∙◌}
use Rattle.item_roll.proofs.Pieces.{sum_less}
use Rattle.item_roll.proofs.roll.Roll.sum_from.Goals as goal

pub returns-clause-sum : goal.returns-clause-sum
returns-clause-sum c = c.sub.ensures ∙ sum_less c.args.self.now c.args.lo c.args.hi _ _ c.requires.within.0 (rw c.self.view_is at c.sum_before-high.ensures) c.sum_below.ensures
