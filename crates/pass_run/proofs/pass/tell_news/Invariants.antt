use Rattle.pass_run.proofs.Telling.{IsTold}
use Rattle.pass_run.proofs.pass.tell_news.Given as goal

abbrev pub invariant-loop-at : goal.invariant-loop-at
invariant-loop-at g l = IsTold (g.W.Write.contents l.initial.writer) (g.W.Write.contents l.writer)
