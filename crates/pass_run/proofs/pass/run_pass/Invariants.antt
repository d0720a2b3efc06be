use Rattle.slices.specs.Course.{work_left}
use Rattle.pass_run.proofs.Passing.{IsUnder}
use Rattle.pass_run.proofs.Telling.{IsTold}
use Rattle.pass_run.proofs.pass.run_pass.Given as goal

abbrev pub invariant-loop-slice : goal.invariant-loop-slice
invariant-loop-slice g l = record {
  under : IsUnder l.settings l.slices l.all;
  told : IsTold (g.W.Write.contents l.initial.writer) (g.W.Write.contents l.writer);
}

abbrev pub decreases-loop-slice : goal.decreases-loop-slice
decreases-loop-slice g l = work_left l.slices
