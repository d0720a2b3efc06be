use Rattle.std.proofs.Common.{◌-◌}
use Rattle.sharing.specs.declared.TheConstants.{RELAYS}
use Rattle.fetch_plan.proofs.Reached.{Searching}
use Rattle.fetch_plan.proofs.search.Search.run.Given as goal

abbrev pub invariant-turns : goal.invariant-turns
invariant-turns l = Searching l.beyond l.loads l.most l.self l.done

abbrev pub decreases-turns : goal.decreases-turns
decreases-turns l = RELAYS - l.self.turn
