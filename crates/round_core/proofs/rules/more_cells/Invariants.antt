use Rattle.std.proofs.Common.{◌≡◌, ◌++◌, replicate}
use Rattle.fetch_plan.specs.declared.cell.Cell.TheVariants.{Free}
use Rattle.round_core.proofs.rules.more_cells.Given as goal

abbrev pub invariant-loop : goal.invariant-loop
invariant-loop l = l.all.items ≡ l.cells ++ replicate l.counter Free
