use Rattle.std.proofs.Common.{◌≡◌, take}
use Rattle.std.specs.List.{list_any}
use Rattle.std.specs.BTreeSet.{contains}
use Rattle.std.specs.Ordering.{eq_by_cmp}
use Rattle.item_key.specs.declared.Item.{Item}
use Rattle.mirror_run.specs.Placing.{IsTaken}
use Rattle.mirror_run.proofs.PlacingLemmas.{order}
use Rattle.mirror_run.proofs.placing.first_refused.Given as goal

abbrev pub invariant-loop-i : goal.invariant-loop-i
invariant-loop-i l = record {
  taken : IsTaken (take l.i l.items);
  members : (q : Item) → contains order l.placed q ≡ list_any (eq_by_cmp order q) (take l.i l.items);
}
