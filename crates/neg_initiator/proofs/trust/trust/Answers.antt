use Rattle.std.proofs.Common.{ap, arith}
use Rattle.item_key.specs.Keys.{place}
use Rattle.neg_codec.specs.Ranges.{edge_of}
use Rattle.neg_draft.proofs.Covering.{edge_low}
use Rattle.neg_initiator.proofs.trust.trust.Goals as goal

pub unreachable-requires : goal.unreachable-requires
unreachable-requires c = omega (arith, edge_low (edge_of c.args.upper) c.edge.ensures.edge, ap (λ b. place (edge_of b)) c.in-Infinite.is, c.requires)
