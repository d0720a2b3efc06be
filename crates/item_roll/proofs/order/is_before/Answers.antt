use Rattle.item_key.specs.Keys.{place}
use Rattle.item_roll.proofs.Compare.{cmp_test}
use Rattle.item_roll.proofs.order.is_before.Goals as goal

pub returns : goal.returns
returns c = rw (c.is_lt.ensures, c.compare.ensures) (cmp_test (place c.args.a.now) (place c.args.b.now))
