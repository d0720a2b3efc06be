use Rattle.std.proofs.Common.{◌≡◌, ◌+◌, ◌-◌, ◌≤◌, ◌++◌, map, take}
use Rattle.std.specs.Prelude.{IfSome}
use Rattle.neg_codec.specs.Ranges.{edge_of, span_of}
use Rattle.neg_print.specs.Total.{total_of}
use Rattle.item_roll.specs.Sums.{sum_at}
use Rattle.item_roll.specs.Splits.{prints_at}
use Rattle.item_roll.proofs.split.told_by_prints.Given as goal

abbrev pub invariant-loop-done : goal.invariant-loop-done
invariant-loop-done l = record {
  room : l.from + (16 - l.done) ≤ l.hi;
  below : IfSome l.below (λ s. total_of s ≡ sum_at (take l.from l.roll));
  so_far : map span_of l.ranges.items ++ prints_at (15 - l.done) l.roll l.from l.hi (edge_of l.upper) ≡ prints_at 15 l.roll l.lo l.hi (edge_of l.upper);
}
