use Rattle.plan_run.proofs.Passing.{faulty_fail}
use Rattle.plan_run.proofs.laws.faulty_texts_fail.Goals as goal

pub returns : goal.returns
returns c = λ text file number told wrong. faulty_fail c.round_trip.ensures c.one_fault.ensures c.one_answer.ensures text file number told wrong
