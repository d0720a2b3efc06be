use Rattle.std.proofs.Common.{ap, ◌∙◌}
use Rattle.std.specs.Prelude.{bytes_eq}
use Rattle.std.specs.List.{list_any}
use Rattle.relay_core.specs.declared.subs.Subscription.{Subscription}
use Rattle.relay_core.specs.Kept.{Kept}
use Rattle.relay_core.proofs.Placing.{in_order_either}
use Rattle.relay_core.proofs.talk.Talk.put_sub.Goals as goal

pub invariant_of-self : goal.invariant_of-self
invariant_of-self c =
    in_order_either c.put.result c.args.sub c.self.inside.subs.items c.put.new.subs.items
    (ap (λ (k : Kept). list_any (λ (s : Subscription). bytes_eq s.name c.args.sub.name) k.subs) c.self.view_is ∙ c.requires) c.self.invariant c.put.ensures.ok c.put.ensures.err
