use Rattle.std.proofs.Common.{List, ◌<◌, length, arith, subst}
use Rattle.item_key.specs.declared.Item.{Item}
use Rattle.item_roll.specs.Halves.{IsNumbered}
use Rattle.item_roll.proofs.Kept.{next_is}
use Rattle.item_roll.proofs.Numbered.{parts_many, numbered, numbered_in}
use Rattle.item_roll.proofs.roll.Roll.chunk.Goals as goal

pub returns-then-left-chunks-clause-there : goal.returns-then-left-chunks-clause-there
returns-then-left-chunks-clause-there c =
    let within : c.loop-entry.left < length c.parts-chunks.result.now = omega (arith, c.if-left-chunks.true) in
    let inner = numbered (λ (xs : List Item). xs) 512 c.parts-chunks.result.now c.loop-entry.left c.index-chunks-left.result c.parts-chunks.ensures.parts within c.index-chunks-left.is in
    let own = rw (c.parts-chunks.ensures.list, c.part.ensures) at inner in
    let all = numbered_in (λ (xs : List Item). xs) 512 c.groups-entry-items.result.now c.loop-entry.entry-index c.entry-item.result c.args.i c.loop-entry.left _ c.loop-entry-test.true c.entry-item.is c.loop-entry.invariant.least c.loop-entry.invariant.few own in
    subst (λ (w : List Item). IsNumbered 512 w c.args.i c.part-then-left-chunks.result.now) c.groups-entry-items.ensures (rw c.part-then-left-chunks.ensures all)

pub loop-entry-preserved : goal.loop-entry-preserved
loop-entry-preserved c =
    let next = next_is (λ (xs : List Item). xs) c.groups-entry-items.result.now c.loop-entry.entry-index c.entry-item.result c.loop-entry-test.true c.entry-item.is in
    let many = rw (c.parts-chunks.ensures.list, c.part.ensures) at (parts_many (λ (xs : List Item). xs) 512 c.parts-chunks.result.now c.parts-chunks.ensures.parts) in
    record {
      least = omega (arith, next, many.0, c.loop-entry.invariant.least);
      few = omega (arith, next, many.1, c.loop-entry.invariant.few, c.if-left-chunks.false);
    }
