use Rattle.std.proofs.Common.{◌<◌, get_or, [], arith, rules}
use Rattle.item_key.specs.Keys.{endless, item_of}
use Rattle.item_roll.proofs.Distinct.{keys_more}
use Rattle.item_roll.proofs.sorting.all_finite.Goals as goal

pub loop-item-preserved : goal.loop-item-preserved
loop-item-preserved c =
    let finite : (get_or c.args.items.now c.loop-item.item-index (item_of 0 [])).time < endless = search rules in
    keys_more c.args.items.now c.loop-item.item-index c.loop-item.invariant c.loop-item-test.true (record { time = finite; id = c.as_bytes.ensures.whole })

pub returns-clause-finite : goal.returns-clause-finite
returns-clause-finite c = λ e k d lt. c.loop-item.invariant k d (omega arith)
