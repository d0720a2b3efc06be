use Rattle.std.proofs.Common.{sym, arith}
use Rattle.item_roll.proofs.Distinct.{repeat_at, step_more, ascending_from}
use Rattle.item_roll.proofs.sorting.has_repeat.Goals as goal

pub loop-i-preserved : goal.loop-i-preserved
loop-i-preserved c = step_more c.args.items.now c.loop-i.i c.loop-i.invariant (omega arith) c.loop-i-test.true (sym c.if-not-is_before.ensures)

pub returns-then-not-is_before-clause-repeat : goal.returns-then-not-is_before-clause-repeat
returns-then-not-is_before-clause-repeat c = λ e. repeat_at c.args.items.now c.loop-i.i c.one_place.ensures c.requires.keys c.requires.rises (omega arith) c.loop-i-test.true (sym c.if-not-is_before.ensures)

pub returns-clause-distinct : goal.returns-clause-distinct
returns-clause-distinct c = λ e. ascending_from c.args.items.now (λ k d lt. c.loop-i.invariant k d (omega arith))
