use Rattle.std.proofs.Common.{◌≡◌, ap, ◌∙◌, arith, length}
use Rattle.relay_core.specs.Due.{marked}
use Rattle.relay_core.proofs.Placing.{marked_back}
use Rattle.relay_core.proofs.talk.Talk.mark_all.Goals as goal

pub invariant_of-self : goal.invariant_of-self
invariant_of-self c =
    let all : c.self.inside.subs.len ≡ length c.self.inside.subs.items = omega (arith, c.as_mut_slice.ensures.len, ap length c.as_mut_slice.ensures.value) in
    marked_back c.args.front c.self.inside.subs.len c.self.inside.subs.items c.mark_all.new.subs (c.mark_all.ensures ∙ ap (marked c.args.front) c.as_mut_slice.ensures.value) all c.self.invariant
