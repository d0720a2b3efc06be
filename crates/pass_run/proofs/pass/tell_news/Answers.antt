use Rattle.pass_run.proofs.Telling.{told_nothing, told_line}
use Rattle.pass_run.proofs.pass.tell_news.Goals as goal

pub loop-at-init : goal.loop-at-init
loop-at-init g c = told_nothing _

pub loop-at-preserved : goal.loop-at-preserved
loop-at-preserved g c = told_line _ _ _ c.index.result.now.0 c.index.result.now.1 c.loop-at.invariant c.in_ok-say_news.ensures

pub returns : goal.returns
returns g c = (c.loop-at.invariant.lines, c.loop-at.invariant.printed)
