use Rattle.std.proofs.Common.{inl}
use Rattle.ws_serve.proofs.Beginning.{fails}
use Rattle.ws_serve.proofs.Putting.{rests_self}
use Rattle.ws_serve.proofs.sending.acknowledge.Goals as goal

pub returns-in_err-message-clause-failed : goal.returns-in_err-message-clause-failed
returns-in_err-message-clause-failed g c = fails c.from_residual.result (inl (rests_self c.args.socket.now))
