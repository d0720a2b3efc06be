use Rattle.std.proofs.Common.{take}
use Rattle.mirror_core.proofs.Kept.{EachKept}
use Rattle.mirror_core.proofs.failover.left_over.Given as goal

abbrev pub invariant-loop-offer : goal.invariant-loop-offer
invariant-loop-offer l = EachKept l.stopped (take l.offer-index l.offers) l.left.items
