use Rattle.plan_check.proofs.Judged.{exact_from}
use Rattle.plan_check.proofs.laws.one_answer.Goals as goal

pub returns : goal.returns
returns c = λ file most answer ok shared shows judged. (exact_from file ok answer judged most).1 (shared, shows)
