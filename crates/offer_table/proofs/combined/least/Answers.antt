use Rattle.offer_table.proofs.SideBySide.{least_second, behind_none, empty}
use Rattle.offer_table.proofs.combined.least.Goals as goal

pub returns-in_ok-second-in-None : goal.returns-in_ok-second-in-None
returns-in_ok-second-in-None c =
    let s = c.in_ok-second-in-None in
    least_second s.second.now s.rest.now c.args.mine.now c.args.theirs.now c.empty.result s.ensures.cases.0 c.requires.theirs (behind_none s.second.now.0 c.args.mine.now (empty c.args.mine.now c.in-None.ensures.cases)) c.empty.ensures
