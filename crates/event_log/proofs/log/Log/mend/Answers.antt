use Rattle.event_log.specs.Media.{Stays, CutsTo}
use Rattle.event_log.proofs.Logging.{anyhow, has_torn, stays_lines, cut_lines}
use Rattle.event_log.proofs.log.Log.mend.Goals as goal

pub invariant_of-self : goal.invariant_of-self
invariant_of-self g c = (c.self.invariant.0, stays_lines _ _ _ _ _ _ _ c.in_err-cut.ensures c.self.invariant.1)

pub invariant_of-self-then-self : goal.invariant_of-self-then-self
invariant_of-self-then-self g c = (c.self.invariant.0, cut_lines _ _ _ _ _ _ _ c.self.invariant.0 c.in_ok-cut.ensures c.self.invariant.1)

pub returns-in_err-cut-clause-torn : goal.returns-in_err-cut-clause-torn
returns-in_err-cut-clause-torn g c = rw (← c.self.view_is) (has_torn _ _ _ _ _ _ _ (anyhow Stays _ _ c.in_err-cut.ensures) (stays_lines _ _ _ _ _ _ _ c.in_err-cut.ensures c.self.invariant.1))

pub returns-in_ok-cut-clause-torn : goal.returns-in_ok-cut-clause-torn
returns-in_ok-cut-clause-torn g c = rw (← c.self.view_is) (has_torn _ _ _ _ _ _ _ (anyhow (CutsTo c.self.inside.len) _ _ c.in_ok-cut.ensures) (cut_lines _ _ _ _ _ _ _ c.self.invariant.0 c.in_ok-cut.ensures c.self.invariant.1))
