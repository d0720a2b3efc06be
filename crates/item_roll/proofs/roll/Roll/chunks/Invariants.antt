use Rattle.std.proofs.Common.{◌≤◌, ◌*◌, List}
use Rattle.item_key.specs.declared.Item.{Item}
use Rattle.item_roll.specs.Chunks.{starts}
use Rattle.item_roll.proofs.roll.Roll.chunks.Given as goal

abbrev pub invariant-loop-group : goal.invariant-loop-group
invariant-loop-group l = record {
  few : l.chunks ≤ starts (λ (xs : List Item). xs) l.group-items l.group-index;
  enough : starts (λ (xs : List Item). xs) l.group-items l.group-index ≤ l.chunks * 512;
}
