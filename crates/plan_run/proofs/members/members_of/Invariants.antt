use Rattle.plan_run.proofs.Gathered.{Gathers}
use Rattle.plan_run.proofs.members.members_of.Given as goal

abbrev pub invariant-loop-relay : goal.invariant-loop-relay
invariant-loop-relay l = Gathers l.relays l.members.items l.relay
