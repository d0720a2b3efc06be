use Rattle.std.proofs.Common.{◌≡◌, ◌*◌, ◌-◌, take}
use Rattle.neg_print.specs.Total.{total_of}
use Rattle.item_roll.specs.Sums.{sum_at, AreMarkedTo}
use Rattle.item_roll.proofs.marks.mark_from.Given as goal

abbrev pub invariant-loop-mark : goal.invariant-loop-mark
invariant-loop-mark l = AreMarkedTo l.mark l.items l.marks × (total_of l.sum ≡ sum_at (take (l.mark * 16 - 16) l.items))
