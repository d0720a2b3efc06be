use Rattle.std.proofs.Common.{ℕ, ◌+◌, ◌%◌, ◌^◌, get_or, [], ap, sym, ◌∙◌}
use Rattle.item_key.specs.Keys.{item_of}
use Rattle.neg_print.specs.Print.{little_number}
use Rattle.neg_print.specs.Total.{total_of}
use Rattle.item_roll.proofs.Totals.{sum_more, sum_none}
use Rattle.item_roll.proofs.marks.sum_of_items.Goals as goal

pub loop-item-init : goal.loop-item-init
loop-item-init c = c.zero-sum.ensures ∙ sym sum_none

pub loop-item-preserved : goal.loop-item-preserved
loop-item-preserved c =
    c.add-sum.ensures ∙ ap (λ (n : ℕ). (total_of c.loop-item.sum + n) % 2 ^ 256) c.of.ensures
    ∙ ap (λ (n : ℕ). (n + little_number (get_or c.args.items.now c.loop-item.item-index (item_of 0 [])).id.0) % 2 ^ 256) c.loop-item.invariant
    ∙ sum_more c.args.items.now c.loop-item.item-index (item_of 0 []) c.loop-item-test.true
