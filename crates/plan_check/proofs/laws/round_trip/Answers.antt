use Rattle.plan_check.proofs.ReadLemmas.{read_back}
use Rattle.plan_check.proofs.laws.round_trip.Goals as goal

pub returns : goal.returns
returns c = read_back
