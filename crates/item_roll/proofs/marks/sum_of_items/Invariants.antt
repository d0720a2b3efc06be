use Rattle.std.proofs.Common.{◌≡◌, take}
use Rattle.neg_print.specs.Print.{sum_of}
use Rattle.neg_print.specs.Total.{total_of}
use Rattle.item_roll.specs.Parts.{ids_of}
use Rattle.item_roll.proofs.marks.sum_of_items.Given as goal

abbrev pub invariant-loop-item : goal.invariant-loop-item
invariant-loop-item l = total_of l.sum ≡ sum_of (ids_of (take l.item-index l.items))
