use Rattle.std.proofs.Common.{◌≡◌, ℕ, ◌<◌, ◌≤◌, length, ap, subst, ◌∙◌}
use Rattle.std.specs.Prelude.{All, IfSome, Contains}
use Rattle.event_table.specs.Events.{places_in}
use Rattle.event_table.specs.Places.{AreWithin}
use Rattle.event_table.proofs.Rolled.{within_matching}
use Rattle.event_table.proofs.matching.places_by_times.Goals as goal

pub returns : goal.returns
returns c =
    let f = c.args.filter.now in
    let events = c.args.table.now in
    let roll = c.roll-roll.result.now in
    let ids = c.in-Some.ids.items in
    let found = c.in_ok-places.places.items in
    let places = c.put_range.new.places.items in
    let len : c.len-2.result ≡ length events = c.len-2.ensures ∙ ap length c.events.ensures.list in
    let within = subst (λ o. IfSome o (λ v. AreWithin f roll v.items)) c.in-Some.is c.in_ok-ids.ensures in
    within_matching f events roll ids found places c.put_in_order.new.places.items c.len.result c.events.ensures.distinct c.len.ensures.value c.roll-roll.ensures within
    (c.in_ok-places.ensures ∙ ap (places_in events) c.as_slice.ensures.value)
    (subst (λ (n : ℕ). All (λ p. p < n) found → All (λ p. p < n) places) len c.in_ok-put_range.ensures.below) c.in_ok-put_range.ensures.kept
    (subst (λ (n : ℕ). (i : ℕ) → c.len.result ≤ i → i < n → Contains places i) len c.in_ok-put_range.ensures.put) c.put_in_order.ensures
