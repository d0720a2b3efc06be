use Rattle.sharing.proofs.Counting.{none_smaller}
use Rattle.sharing.proofs.pigeonhole.Goals as goal

pub returns : goal.returns
returns c base offers group least shows = none_smaller base offers group least shows
