use Rattle.plan_check.proofs.ReadLemmas.{refused_so}
use Rattle.plan_check.proofs.laws.one_fault.Goals as goal

pub returns : goal.returns
returns c = refused_so
