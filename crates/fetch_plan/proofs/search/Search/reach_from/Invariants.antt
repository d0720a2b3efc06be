use Rattle.fetch_plan.specs.Chains.{set_at}
use Rattle.fetch_plan.proofs.Reached.{Reaching}
use Rattle.fetch_plan.proofs.search.Search.reach_from.Given as goal

abbrev pub invariant-loop-other : goal.invariant-loop-other
invariant-loop-other l = Reaching l.beyond l.initial.self l.relay (set_at l.beyond l.relay) l.self l.other
