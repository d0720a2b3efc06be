use Rattle.std.proofs.Common.{◌≡◌, ◌+◌, drop}
use Rattle.item_roll.specs.Splits.{common_len}
use Rattle.item_roll.proofs.bound.common_bytes.Given as goal

abbrev pub invariant-loop-i : goal.invariant-loop-i
invariant-loop-i l = common_len l.a l.b ≡ common_len (drop l.i l.a) (drop l.i l.b) + l.i
