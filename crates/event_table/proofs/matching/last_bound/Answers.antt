use Rattle.neg_codec.proofs.Stretches.{key_below}
use Rattle.event_table.proofs.Asked.{to_last}
use Rattle.event_table.proofs.matching.last_bound.Goals as goal

pub returns-in-Some : goal.returns-in-Some
returns-in-Some c k key hit = to_last c.args.filter.now c.in-Some.until c.new.result k c.in-Some.is c.new.ensures key hit

pub returns-in_default : goal.returns-in_default
returns-in_default c k key hit = key_below k key
