use Rattle.std.proofs.Common.{arith, map, take, List, ◌++◌, subst}
use Rattle.std.specs.Prelude.{IsPermutation}
use Rattle.std.proofs.lemmas.List.{take_all}
use Rattle.std.proofs.lemmas.List.Sorted.{IsPermutation-trans}
use Rattle.item_key.specs.declared.Item.{Item}
use Rattle.nostr_event.specs.EventView.{item_of}
use Rattle.event_table.proofs.rolling.put_items.Goals as goal

pub returns : goal.returns
returns c =
    let first = map item_of (take c.len-start.result c.args.events.now) in
    let items = c.in_ok-items.items.items in
    let all = take_all c.loop-at.at items (omega (arith, c.loop-at-test.false, c.len-at-end.ensures)) in
    IsPermutation-trans (map item_of c.args.events.now) (first ++ items) c.loop-at.roll c.in_ok-items.ensures
    (subst (λ (xs : List Item). IsPermutation (first ++ xs) c.loop-at.roll) all c.loop-at.invariant)
