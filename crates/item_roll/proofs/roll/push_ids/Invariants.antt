use Rattle.std.proofs.Common.{◌≡◌, ◌++◌, take}
use Rattle.item_roll.specs.Parts.{ids_of}
use Rattle.item_roll.proofs.roll.push_ids.Given as goal

abbrev pub invariant-loop-item : goal.invariant-loop-item
invariant-loop-item l = l.ids.items ≡ l.fn.ids.items ++ ids_of (take l.item-index l.items)
