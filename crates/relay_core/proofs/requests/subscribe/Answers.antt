use Rattle.std.proofs.Common.{ap, sym, ◌∙◌, length, map}
use Rattle.nostr_filter.specs.Choice.{chosen}
use Rattle.nostr_wire.specs.Forms.{relay_form}
use Rattle.relay_core.proofs.Pinned.{subscribed_is}
use Rattle.relay_core.proofs.requests.subscribe.Goals as goal

pub returns-clause-turn : goal.returns-clause-turn
returns-clause-turn g c shared same =
    let pinned = c.in_ok-all.ensures.list in
    let found = c.as_slice-2.ensures.value ∙ c.in_ok-places.ensures shared (same ∙ sym pinned) ∙ ap (λ fs. chosen fs shared) c.as_slice.ensures.filters in
    subscribed_is c.args.name c.args.filters c.all.new.self c.events.result.now c.as_slice-2.result.now (chosen c.args.filters shared) c.front.result c.args.talk.now c.put_sub.new.self (map relay_form c.in_ok-out.out.items)
    (c.events.ensures ∙ pinned) found (c.front.ensures ∙ ap length pinned) c.in_ok-out.ensures c.in_ok-put_sub.ensures
