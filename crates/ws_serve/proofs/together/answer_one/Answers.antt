use Rattle.ws_serve.proofs.Beginning.{fails}
use Rattle.ws_serve.proofs.together.answer_one.Goals as goal

pub returns-in_err-tell-clause-failed : goal.returns-in_err-tell-clause-failed
returns-in_err-tell-clause-failed g c = fails c.from_residual.result (rw c.stored_one-one.ensures.id at c.in_err-tell.ensures.failed)
