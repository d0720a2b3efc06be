use Rattle.std.proofs.Common.{List, ◌+◌, length, ap, arith}
use Rattle.item_key.specs.declared.Item.{Item}
use Rattle.item_roll.proofs.Kept.{next_is, starts_most}
use Rattle.item_roll.proofs.roll.Roll.chunks.Goals as goal

pub overflow_add-chunks : goal.overflow_add-chunks
overflow_add-chunks c =
    let next = next_is (λ (xs : List Item). xs) c.parts-group-items.result.now c.loop-group.group-index c.group-item.result c.loop-group-test.true c.group-item.is in
    let own = rw c.part.ensures at c.chunks-chunks.ensures.few in
    omega (arith, next, own, c.loop-group.invariant.few, starts_most (λ (xs : List Item). xs) c.parts-group-items.result.now (c.loop-group.group-index + 1), ap length c.parts-group-items.ensures.list, c.parts-group-items.ensures.few)

pub loop-group-preserved : goal.loop-group-preserved
loop-group-preserved c =
    let next = next_is (λ (xs : List Item). xs) c.parts-group-items.result.now c.loop-group.group-index c.group-item.result c.loop-group-test.true c.group-item.is in
    let few = rw c.part.ensures at c.chunks-chunks.ensures.few in
    let enough = rw c.part.ensures at c.chunks-chunks.ensures.enough in
    record {
      few = omega (arith, next, few, c.loop-group.invariant.few);
      enough = omega (arith, next, enough, c.loop-group.invariant.enough);
    }
