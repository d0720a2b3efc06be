use Rattle.plan_check.proofs.OneText.{one_file_each}
use Rattle.plan_check.proofs.laws.one_file.Goals as goal

pub returns : goal.returns
returns c = one_file_each
