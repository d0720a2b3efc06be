use Rattle.std.proofs.Common.{◌≤◌, ap, sym, ◌∙◌, length, take, map, subst}
use Rattle.nostr_wire.specs.Forms.{relay_form}
use Rattle.relay_core.specs.Acknowledging.{AcknowledgeNone}
use Rattle.relay_core.specs.Due.{due}
use Rattle.relay_core.proofs.Acknowledging.{due_none}
use Rattle.relay_core.proofs.Passing.{catches_up}
use Rattle.relay_core.proofs.catching.catch_up.Goals as goal

pub returns-clause-caught : goal.returns-clause-caught
returns-clause-caught g c =
    let t = c.args.talk.now in
    let n = c.in_ok-caught.caught.front in
    let whole = c.events.ensures ∙ c.in_ok-all.ensures.list in
    catches_up c.all.new.self n (map relay_form c.in_ok-caught.caught.out.items) t c.mark_all.new.self
    (subst (λ es. n ≤ length es) whole c.in_ok-caught.ensures.within)
    (c.in_ok-caught.ensures.given ∙ ap (λ ss. due ss (take n c.events.result.now)) c.subs.ensures ∙ ap (λ es. due t.subs (take n es)) whole)
    c.mark_all.ensures

pub returns-clause-none_acknowledged : goal.returns-clause-none_acknowledged
returns-clause-none_acknowledged g c =
    subst AcknowledgeNone (sym c.in_ok-caught.ensures.given) (due_none 0 c.subs.result.now (take c.in_ok-caught.caught.front c.events.result.now))
