use Rattle.sharing.specs.declared.TheConstants.{RELAYS}
use Rattle.fetch_plan.proofs.Reached.{reached_none, no_turns}
use Rattle.fetch_plan.proofs.search.Search.new.Goals as goal

pub returns-clause-reach : goal.returns-clause-reach
returns-clause-reach c beyond = let r = c.relays_with.ensures in reached_none _ _ _ _ r.relays r.sound r.whole (no_turns RELAYS)
