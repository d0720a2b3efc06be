use Rattle.std.proofs.Common.{◌≡◌, ◌++◌, take, flat_map, All}
use Rattle.item_key.specs.Keys.{IsId}
use Rattle.plan_check.specs.TextLines.{ended}
use Rattle.plan_check.specs.PlanText.{give_line}
use Rattle.plan_check.proofs.writing.put_gives.Given as goal

abbrev pub invariant-loop-give : goal.invariant-loop-give
invariant-loop-give l = record {
  written : l.text.items ≡ l.fn.text.items ++ flat_map (λ g. ended (give_line g)) (take l.give-index l.gives);
  ids : All (λ g. IsId g.0) (take l.give-index l.gives);
}
