use Rattle.std.proofs.Common.{sym, subst}
use Rattle.relay_core.specs.Kept.{InOrder}
use Rattle.relay_core.proofs.Placing.{in_order_kept}
use Rattle.relay_core.proofs.talk.Talk.end_sub.Goals as goal

pub invariant_of-self : goal.invariant_of-self
invariant_of-self c = subst InOrder (sym c.end.ensures) (in_order_kept _ c.self.inside.subs.items c.self.invariant)
