use Rattle.std.proofs.Common.{◌≡◌, ◌∙◌, rules, sym, subst}
use mathlib.Core.List.{IsPrefix}
use Rattle.event_list.proofs.Prefixes.{prefix_self}
use Rattle.event_store.proofs.desk.Desk.index.Goals as goal

pub show-requires-clause-begins : goal.show-requires-clause-begins
show-requires-clause-begins g c =
    let published : c.deref.result.now ≡ c.args.self.now = search rules in
    subst (λ events. IsPrefix c.args.self.now events) (sym (c.in_ok-state-2.ensures ∙ (c.in_ok-state.ensures ∙ published))) (prefix_self c.args.self.now)
