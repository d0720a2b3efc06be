use Rattle.std.proofs.Common.{◌≡◌, get_or}
use Rattle.fetch_plan.specs.declared.cell.Cell.TheVariants.{Free}
use Rattle.fetch_plan.specs.LeftOut.{no_give, first_of, gone_beside}
use Rattle.fetch_plan.proofs.left.left_out.Given as goal

abbrev pub invariant-loop-at : goal.invariant-loop-at
invariant-loop-at l = l.gone.items ≡ first_of (λ k. ((get_or l.plan.gives k no_give).0, gone_beside l.table.offers (get_or l.cells k Free) (get_or l.plan.gives k no_give))) l.at
