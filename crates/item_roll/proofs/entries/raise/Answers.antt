use Rattle.std.proofs.Common.{◌<◌, length, arith, ap, inr}
use Rattle.item_roll.specs.declared.entries.Entry.{Entry}
use Rattle.item_roll.proofs.entries.raise.Goals as goal

pub overflow_add-entry : goal.overflow_add-entry
overflow_add-entry g c =
    let kept = c.loop-k.invariant.kept c.loop-k.k c.index-entries-k.result (inr (omega arith)) in
    let lt : c.loop-k.k < length c.args.entries.now = omega (arith, c.loop-k-test.true) in
    omega (arith, ap (λ (x : Entry g.row.P.Denot). x.before) kept, c.requires.few c.loop-k.k c.index-entries-k.result lt)
