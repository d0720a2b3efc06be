use Rattle.std.proofs.Common.{take, map}
use Rattle.std.specs.Prelude.{All}
use Rattle.neg_codec.specs.Ranges.{span_of, IsSpan}
use Rattle.neg_codec.proofs.message.spans_have_their_lengths.Given as goal

abbrev pub invariant-loop-range : goal.invariant-loop-range
invariant-loop-range l = All IsSpan (take l.range-index (map span_of l.ranges))
