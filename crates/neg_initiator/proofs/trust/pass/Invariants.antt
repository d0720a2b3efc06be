use Rattle.std.proofs.Common.{take, map}
use Rattle.neg_codec.specs.Ranges.{edge_of, span_of}
use Rattle.neg_initiator.specs.Trusting.{between}
use Rattle.neg_initiator.proofs.Passing.{Passing}
use Rattle.neg_initiator.proofs.trust.pass.Given as goal

abbrev pub invariant-loop-count : goal.invariant-loop-count
invariant-loop-count l = Passing (edge_of l.fn.from) (map span_of (take l.count l.rest)) (between (edge_of l.lower) (edge_of l.upper)) l.met (edge_of l.end)
