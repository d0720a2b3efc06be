use Rattle.std.proofs.Common.{◌≡◌, ◌++◌, drop, map}
use Rattle.neg_codec.specs.Ranges.{span_of}
use Rattle.neg_codec.specs.Encoding.{ranges_text, text_of}
use Rattle.neg_codec.proofs.Writes.{Rest}
use Rattle.neg_codec.proofs.writing.encode.Given as goal

abbrev pub invariant-loop-range : goal.invariant-loop-range
invariant-loop-range l = record {
  so_far : l.out.items ++ ranges_text l.before (drop l.range-index (map span_of l.ranges)) ≡ text_of (map span_of l.ranges);
  rest : Rest l.before (drop l.range-index (map span_of l.ranges));
}
