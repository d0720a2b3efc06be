use Rattle.neg_codec.proofs.Again.{one_message}
use Rattle.neg_codec.proofs.laws.one_message.Goals as goal

pub returns : goal.returns
returns c = one_message
