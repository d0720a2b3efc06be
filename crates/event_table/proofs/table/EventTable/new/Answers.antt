use Rattle.std.proofs.Common.{sym, subst, List, []}
use Rattle.std.specs.Prelude.{IsPermutation}
use Rattle.std.specs.Arc.{arc_value}
use Rattle.item_key.specs.declared.Item.{Item}
use Rattle.event_index.specs.Postings.{Covered, Covers}
use Rattle.event_table.proofs.Stands.{nothing_stands}
use Rattle.event_table.proofs.table.EventTable.new.Goals as goal

pub invariant_of-result : goal.invariant_of-result
invariant_of-result c = nothing_stands c.in_ok-new.field-0 (arc_value c.in_ok-new-2.field-0) (arc_value c.in_ok-new-3.field-0) c.in_ok-new.ensures
    (subst (λ (xs : List Item). IsPermutation [] xs) (sym c.in_ok-new-2.ensures.ok) c.in-Ok.ensures.ok) (subst (λ (x : Covered). Covers [] x) (sym c.in_ok-new-3.ensures.ok) c.new-3.ensures)
