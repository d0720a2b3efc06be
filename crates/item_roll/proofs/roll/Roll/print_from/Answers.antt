use Rattle.std.proofs.Common.{◌∙◌}
use Rattle.neg_print.specs.Total.{total_of}
use Rattle.item_roll.proofs.Totals.{print_piece}
use Rattle.item_roll.proofs.roll.Roll.print_from.Goals as goal

pub returns-clause-print : goal.returns-clause-print
returns-clause-print c = c.print.ensures ∙ print_piece c.args.self.now c.args.lo c.args.hi (total_of c.sum_from-below.result.0) c.requires.within.1 c.sum_from-below.ensures.sum
