use Rattle.std.proofs.Common.{take, map}
use Rattle.neg_codec.specs.Ranges.{span_of}
use Rattle.neg_responder.proofs.Replying.{Replied}
use Rattle.neg_responder.proofs.ranges.reply.Given as goal

abbrev pub invariant-loop-range : goal.invariant-loop-range
invariant-loop-range l = Replied l.limit l.roll (map span_of l.range-items) (map span_of (take l.range-index l.range-items)) l.draft
