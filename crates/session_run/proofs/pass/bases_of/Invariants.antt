use Rattle.session_run.proofs.Loads.{IsBegun}
use Rattle.session_run.proofs.pass.bases_of.Given as goal

abbrev pub invariant-loop-relay : goal.invariant-loop-relay
invariant-loop-relay l = IsBegun l.loads l.bases l.relay
