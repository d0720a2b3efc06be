use Rattle.std.proofs.Common.{◌≡◌, ◌≤◌, take, map}
use Rattle.item_key.specs.Keys.{place, least}
use Rattle.neg_codec.specs.Ranges.{edge_of, span_of}
use Rattle.item_roll.specs.Closed.{closed_from}
use Rattle.neg_draft.specs.Coverage.{end_of}
use Rattle.neg_initiator.specs.Pairs.{pair_of}
use Rattle.neg_initiator.specs.Trusting.{TrustsSkipped}
use Rattle.neg_initiator.proofs.Trusts.{At}
use Rattle.neg_initiator.proofs.trust.trust_skipped.Given as goal

abbrev pub invariant-loop-range : goal.invariant-loop-range
invariant-loop-range l = record {
  at : At l.answered (map span_of l.rest) (edge_of l.from) (edge_of l.lower);
  until : place (edge_of l.from) ≤ place (edge_of l.until);
  lower : edge_of l.lower ≡ end_of least (map span_of (take l.range-index l.range-items));
  trusts : TrustsSkipped (map span_of l.range-items) l.answered (edge_of l.until) (closed_from least (map span_of (take l.range-index l.range-items))) (map pair_of l.initial.trusted.items) (map pair_of l.trusted.items);
}
