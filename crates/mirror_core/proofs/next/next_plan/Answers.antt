use Rattle.mirror_core.proofs.Left.{less_of, next_of, on_err}
use Rattle.mirror_core.proofs.next.next_plan.Goals as goal

pub returns-clause-planned : goal.returns-clause-planned
returns-clause-planned c = next_of c.args.bases.now c.args.table.now.offers c.strike.new.table.offers c.args.last.now.gives c.args.cells.now c.plan.result c.in_ok-strike.ensures.left c.plan.ensures.planned c.plan.ensures.least

pub returns-clause-err : goal.returns-clause-err
returns-clause-err c = on_err c.plan.result (less_of c.args.table.now.offers c.strike.new.table.offers c.args.last.now.gives c.args.cells.now c.in_ok-strike.ensures.left)
