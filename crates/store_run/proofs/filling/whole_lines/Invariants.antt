use Rattle.std.proofs.Common.{◌≤◌, length}
use Rattle.store_run.proofs.filling.whole_lines.Given as goal

abbrev pub invariant-loop-len : goal.invariant-loop-len
invariant-loop-len l = l.len ≤ length l.text

abbrev pub decreases-loop-len : goal.decreases-loop-len
decreases-loop-len l = l.len
