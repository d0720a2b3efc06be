use Rattle.std.proofs.Common.{ℕ, ◌<◌, get_or}
use Rattle.item_key.specs.declared.Item.{Item}
use Rattle.item_key.specs.Keys.{IsKey}
use Rattle.item_roll.proofs.sorting.all_finite.Given as goal

abbrev pub invariant-loop-item : goal.invariant-loop-item
invariant-loop-item l = (k : ℕ) (d : Item) → k < l.item-index → IsKey (get_or l.items k d)
