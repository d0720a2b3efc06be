use Rattle.pass_run.proofs.Telling.{AreTold}
use Rattle.pass_run.proofs.passes.run_passes.Given as goal

abbrev pub invariant-loop-number : goal.invariant-loop-number
invariant-loop-number g l = AreTold l.settings (g.W.Write.contents l.initial.writer) (g.W.Write.contents l.writer) l.number l.is_last_short
