use Rattle.plan_run.proofs.Failing.{fails_at}
use Rattle.plan_run.proofs.laws.faulty_lines_fail.Goals as goal

pub returns : goal.returns
returns c = λ text n fault wrong. fails_at c.one_fault.ensures text n fault wrong
