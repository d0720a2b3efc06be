use Rattle.std.proofs.Common.{◌≡◌, drop, map}
use Rattle.neg_codec.specs.Ranges.{edge_of, span_of}
use Rattle.neg_codec.specs.Misplaced.{misplaced_from, first_misplaced}
use Rattle.neg_codec.proofs.message.misplaced.Given as goal

abbrev pub invariant-loop-i : goal.invariant-loop-i
invariant-loop-i l = misplaced_from l.i (edge_of l.before) (drop l.i (map span_of l.ranges)) ≡ first_misplaced (map span_of l.ranges)
