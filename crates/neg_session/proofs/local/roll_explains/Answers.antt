use Rattle.neg_session.proofs.Answering.{local_explains}
use Rattle.neg_session.proofs.local.roll_explains.Goals as goal

pub returns : goal.returns
returns c = local_explains
