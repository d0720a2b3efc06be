use Rattle.std.proofs.Common.{ap, ◌∙◌, ◌++◌, ◌∷◌, []}
use Rattle.std.specs.Arc.{arc_value}
use Rattle.nostr_event.specs.EventView.{item_of}
use Rattle.event_table.proofs.Matched.{items_more}
use Rattle.event_store.proofs.snapshot.roll_of.Goals as goal

pub loop-place-preserved : goal.loop-place-preserved
loop-place-preserved c =
    let put = c.in_ok-push.ensures.items ∙ ap (λ x. c.loop-place.items.items ++ x ∷ []) (c.item.ensures.value ∙ ap item_of c.deref.ensures) in
    items_more c.args.events.now c.loop-place.items.items c.push.new.self.items c.loop-place.place (arc_value c.get.result.now) c.get.ensures c.loop-place.invariant put
