use Rattle.std.proofs.Common.{◌≡◌, take, map}
use Rattle.item_key.specs.Keys.{least}
use Rattle.neg_codec.specs.Ranges.{edge_of, span_of}
use Rattle.neg_draft.specs.Coverage.{end_of}
use Rattle.neg_initiator.specs.Findings.{findings_of}
use Rattle.neg_initiator.proofs.Stepping.{Progress}
use Rattle.neg_initiator.proofs.settle.walk.Given as goal

abbrev pub invariant-loop-range : goal.invariant-loop-range
invariant-loop-range l = record {
  progress : Progress l.limit l.roll (map span_of l.range-items) (map span_of (take l.range-index l.range-items)) (findings_of l.fn.found) (findings_of l.found) l.draft;
  lower : edge_of l.lower ≡ end_of least (map span_of (take l.range-index l.range-items));
  most : l.found.most ≡ l.fn.found.most;
}
