use Rattle.std.proofs.Common.{◌∷◌, ◌++◌, ◌-◌, [], List, map, take, drop, sym, ap, ◌∙◌}
use Rattle.std.specs.Arc.{arc_value}
use Rattle.std.proofs.lemmas.List.{map-append}
use Rattle.nostr_event.specs.EventView.{EventView}
use Rattle.event_table.proofs.Indexed.{tail_more}
use Rattle.event_table.proofs.indexing.tail.Goals as goal

pub loop-place-preserved : goal.loop-place-preserved
loop-place-preserved c =
    let e = c.in_ok-try_clone.field-0 in
    let before : List EventView = take (c.loop-place.place - c.args.start) (drop c.args.start c.args.events.now) in
    ap (map arc_value) c.in_ok-push.ensures.items ∙ map-append arc_value c.loop-place.all.items (e ∷ []) ∙ ap (λ xs. xs ++ arc_value e ∷ []) c.loop-place.invariant
    ∙ ap (λ (x : EventView). before ++ x ∷ []) c.in_ok-try_clone.ensures ∙ sym (tail_more c.args.events.now c.args.start c.loop-place.place (arc_value c.get.result.now) c.loop-place.auto.place c.get.ensures)
