use Rattle.event_table.proofs.Asked.{from_first, below_all}
use Rattle.event_table.proofs.matching.first_bound.Goals as goal

pub returns-in-Some : goal.returns-in-Some
returns-in-Some c k hit = from_first c.args.filter.now c.in-Some.since c.new.result k c.in-Some.is c.new.ensures hit

pub returns-in_default : goal.returns-in_default
returns-in_default c k hit = below_all _ k c.lowest.ensures
