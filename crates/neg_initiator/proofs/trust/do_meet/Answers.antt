use Rattle.std.proofs.Common.{◌&&◌}
use Rattle.std.proofs.lemmas.Bool.{and_parts, and_from}
use Rattle.neg_codec.specs.Ranges.{edge_of}
use Rattle.neg_initiator.specs.Trusting.{between}
use Rattle.neg_initiator.proofs.Meeting.{meet_of, overlap_of}
use Rattle.neg_initiator.proofs.trust.do_meet.Goals as goal

pub returns : goal.returns
returns c = (
  λ h.
      let a = and_parts ((c.is_below-own.result && c.is_below-first.result) && c.is_below-second.result) c.is_below-other.result h in
      let b = and_parts (c.is_below-own.result && c.is_below-first.result) c.is_below-second.result a.0 in
      let d = and_parts c.is_below-own.result c.is_below-first.result b.0 in
      meet_of (edge_of c.args.lower.now) (edge_of c.args.upper.now) (edge_of c.args.other_lower.now) (edge_of c.args.other_upper.now)
      c.edge.ensures.edge c.edge-2.ensures.edge c.edge-3.ensures.edge c.edge-4.ensures.edge
      (record { own = c.is_below-own.ensures.0 d.0; first = c.is_below-first.ensures.0 d.1; second = c.is_below-second.ensures.0 b.1; other = c.is_below-other.ensures.0 a.1 }),
  λ m.
      let o = overlap_of (between (edge_of c.args.lower.now) (edge_of c.args.upper.now)) (between (edge_of c.args.other_lower.now) (edge_of c.args.other_upper.now)) m in
      and_from ((c.is_below-own.result && c.is_below-first.result) && c.is_below-second.result) c.is_below-other.result
      (and_from (c.is_below-own.result && c.is_below-first.result) c.is_below-second.result
      (and_from c.is_below-own.result c.is_below-first.result (c.is_below-own.ensures.1 o.own) (c.is_below-first.ensures.1 o.first)) (c.is_below-second.ensures.1 o.second))
      (c.is_below-other.ensures.1 o.other),
)
