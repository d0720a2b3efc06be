use Rattle.std.proofs.Common.{length, ap, sym, ◌∙◌, arith}
use Rattle.item_key.specs.Keys.{least}
use Rattle.item_roll.proofs.Truths.{got}
use Rattle.item_roll.proofs.Inserts.{gap_at_end, gap_before, stands_there}
use Rattle.item_roll.proofs.roll.Roll.place_for.Goals as goal

pub returns-then-at-len-clause-place : goal.returns-then-at-len-clause-place
returns-then-at-len-clause-place c = gap_at_end c.args.self.now c.below-at.result c.args.item.now c.len.ensures.roll (rw c.self.view_is at c.below-at.ensures.value) (c.if-at-len.true ∙ c.len.ensures.value)

pub returns-then-is_before-clause-place : goal.returns-then-is_before-clause-place
returns-then-is_before-clause-place c = gap_before c.args.self.now c.below-at.result c.args.item.now least c.len.ensures.roll (rw c.self.view_is at c.below-at.ensures.value) (omega (arith, c.below-at.ensures.within, ap length c.self.view_is, c.if-at-len.false, c.len.ensures.value)) (rw (got c.args.self.now c.below-at.result c.get.result c.get.ensures.value) at (sym c.if-is_before.ensures))

pub returns-else-is_before-clause-place : goal.returns-else-is_before-clause-place
returns-else-is_before-clause-place c =
    stands_there c.args.self.now c.below-at.result c.args.item.now least c.one_place.ensures c.len.ensures.roll c.as_bytes.ensures.whole (rw c.self.view_is at c.below-at.ensures.value) (omega (arith, c.below-at.ensures.within, ap length c.self.view_is, c.if-at-len.false, c.len.ensures.value)) (rw (got c.args.self.now c.below-at.result c.get.result c.get.ensures.value) at (sym c.if-is_before.ensures))
