use Rattle.relay_core.proofs.Acknowledging.{text_none}
use Rattle.relay_core.proofs.conn.Conn.serve_with.Goals as goal

pub returns-clause-none_acknowledged : goal.returns-clause-none_acknowledged
returns-clause-none_acknowledged g c = text_none c.self.inside.limits _ _ _ _ c.in_ok-step.ensures.turn
