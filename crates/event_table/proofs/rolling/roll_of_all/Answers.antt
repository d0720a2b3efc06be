use Rattle.std.proofs.Common.{sym, subst, map, List, ◌∙◌}
use Rattle.std.specs.Prelude.{IsPermutation}
use Rattle.item_key.specs.declared.Item.{Item}
use Rattle.nostr_event.specs.EventView.{item_of}
use Rattle.event_table.specs.States.{IsRolled}
use Rattle.event_table.proofs.rolling.roll_of_all.Goals as goal

pub put_items-requires : goal.put_items-requires
put_items-requires c = subst (λ (xs : List Item). IsRolled c.args.events.now xs) (sym (c.in_ok-all.ensures ∙ c.deref-3.ensures)) c.requires

pub returns : goal.returns
returns c = subst (λ (xs : List Item). IsPermutation (map item_of c.args.events.now) xs) (sym c.in_ok-new-2.ensures.ok) c.in_ok-put_items.ensures
