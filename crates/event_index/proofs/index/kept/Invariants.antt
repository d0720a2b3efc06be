use Rattle.std.proofs.Common.{◌≤◌, length}
use Rattle.event_index.proofs.index.kept.Given as goal

abbrev pub invariant-loop-layer : goal.invariant-loop-layer
invariant-loop-layer l = l.kept ≤ length l.runs
