use Rattle.plan_run.proofs.Passing.{planned_pass}
use Rattle.plan_run.proofs.laws.planned_texts_pass.Goals as goal

pub returns : goal.returns
returns c = planned_pass c.least_texts_pass.ensures
