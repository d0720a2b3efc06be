use Rattle.std.proofs.Common.{rules}
use Rattle.neg_initiator.proofs.Keys.{made_of}
use Rattle.neg_initiator.proofs.ids.set_of.Goals as goal

pub returns : goal.returns
returns c = made_of c.args.ids.now c.in_ok-set.set (search rules)
