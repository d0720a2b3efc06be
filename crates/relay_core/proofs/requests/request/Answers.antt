use Rattle.std.proofs.Common.{ap, ◌∙◌}
use Rattle.std.specs.Prelude.{bytes_eq}
use Rattle.std.specs.List.{list_any}
use Rattle.relay_core.specs.declared.subs.Subscription.{Subscription}
use Rattle.relay_core.specs.Kept.{Kept}
use Rattle.relay_core.proofs.Placing.{none_left}
use Rattle.relay_core.proofs.requests.request.Goals as goal

pub subscribe-requires : goal.subscribe-requires
subscribe-requires g c =
    ap (λ (k : Kept). list_any (λ (s : Subscription). bytes_eq s.name c.args.name) k.subs) c.end_sub.ensures ∙ none_left c.args.name c.args.talk.now.subs
