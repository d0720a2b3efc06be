use Rattle.std.proofs.Common.{ap, sym, subst, arith, map, take, List, [], ◌++◌, ◌∷◌, append_assoc, ◌∙◌}
use Rattle.std.specs.Prelude.{IsPermutation}
use Rattle.std.specs.Arc.{arc_value}
use Rattle.std.proofs.lemmas.List.{take_all}
use Rattle.std.proofs.lemmas.List.Sorted.{IsPermutation-append_right}
use Rattle.item_key.specs.declared.Item.{Item}
use Rattle.nostr_event.specs.EventView.{item_of}
use Rattle.event_table.proofs.Matched.{items_more}
use Rattle.event_table.proofs.rolling.items_from.Goals as goal

pub loop-place-preserved : goal.loop-place-preserved
loop-place-preserved c =
    let first = map item_of (take c.args.start c.args.events.now) in
    let before = c.loop-place.items.items in
    let put = c.in_ok-push.ensures.items ∙ ap (λ x. before ++ x ∷ []) (c.item.ensures.value ∙ ap item_of c.deref.ensures) in
    items_more c.args.events.now (first ++ before) (first ++ c.push.new.self.items) c.loop-place.place (arc_value c.get.result.now) c.get.ensures c.loop-place.invariant
    (ap (λ (xs : List Item). first ++ xs) put ∙ sym (append_assoc first before (item_of (arc_value c.get.result.now) ∷ [])))

pub returns : goal.returns
returns c =
    let first = map item_of (take c.args.start c.args.events.now) in
    let all = c.loop-place.invariant ∙ ap (map item_of) (take_all c.loop-place.place c.args.events.now (omega (arith, c.loop-place.auto.place))) in
    subst (λ (xs : List Item). IsPermutation xs (first ++ c.sort_unstable_by.new.self.items)) all
    (IsPermutation-append_right first c.loop-place.items.items c.sort_unstable_by.new.self.items c.sort_unstable_by.ensures.permutation)
