use Rattle.std.proofs.Common.{[]}
use Rattle.round_core.proofs.Holders.{legal_front}
use Rattle.round_core.proofs.round.legal_begins.Goals as goal

pub returns : goal.returns
returns c lanes h more legal = (legal.0, legal_front lanes legal.0 [] h more legal.1)
