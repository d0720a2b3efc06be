use Rattle.std.proofs.Common.{sym, subst, List, [], ◌∷◌, ◌++◌}
use Rattle.std.specs.Prelude.{IsPermutation}
use Rattle.item_key.specs.declared.Item.{Item}
use Rattle.event_table.proofs.Stands.{item_push}
use Rattle.event_table.proofs.rolling.put_item.Goals as goal

pub returns-in-Ok : goal.returns-in-Ok
returns-in-Ok c items moved =
    subst (λ (xs : List Item). IsPermutation (items ++ c.args.item ∷ []) xs) (sym c.in-Ok.ensures.ok) (item_push items c.args.roll.now c.args.item c.len.ensures.roll.keys moved)
