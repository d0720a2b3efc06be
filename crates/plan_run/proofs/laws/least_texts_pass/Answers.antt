use Rattle.plan_run.proofs.Passing.{least_pass}
use Rattle.plan_run.proofs.laws.least_texts_pass.Goals as goal

pub returns : goal.returns
returns c = λ text file most told passes. least_pass c.round_trip.ensures c.one_fault.ensures c.one_answer.ensures text file told most passes c.pigeonhole.ensures
