use Rattle.neg_print.specs.Total.{total_of}
use Rattle.item_roll.specs.Chunks.{Raised}
use Rattle.item_roll.proofs.entries.raise.Given as goal

abbrev pub invariant-loop-k : goal.invariant-loop-k
invariant-loop-k g l = Raised (total_of l.fn.by) l.fn.from l.k l.fn.entries l.entries
