use Rattle.std.proofs.Common.{◌≤◌, ◌+◌, ◌*◌, List}
use Rattle.item_key.specs.declared.Item.{Item}
use Rattle.item_roll.specs.Chunks.{starts}
use Rattle.item_roll.proofs.roll.Roll.chunk.Given as goal

abbrev pub invariant-loop-entry : goal.invariant-loop-entry
invariant-loop-entry l = record {
  least : l.i ≤ l.left + starts (λ (xs : List Item). xs) l.entry-items l.entry-index;
  few : starts (λ (xs : List Item). xs) l.entry-items l.entry-index + l.left * 512 ≤ l.i * 512;
}
