use Rattle.std.proofs.Common.{take, map}
use Rattle.neg_codec.specs.Ranges.{edge_of, span_of}
use Rattle.neg_draft.proofs.Going.{Going}
use Rattle.neg_draft.proofs.draft.Draft.tell_prints.Given as goal

abbrev pub invariant-loop-range : goal.invariant-loop-range
invariant-loop-range l = Going l.roll l.fn.self (edge_of l.upper) (map span_of (take l.range-index l.prints)) l.draft
