use Rattle.std.proofs.Common.{ℕ, List, take, ap, subst}
use Rattle.plan_run.specs.Fronts.{IsPlannedText}
use Rattle.plan_run.proofs.Done.{plan_written}
use Rattle.plan_run.proofs.planning.run_plan.Goals as goal

pub returns-clause-ok : goal.returns-clause-ok
returns-clause-ok g c =
    plan_written c.write_plan.result (g.R.Read.remaining c.args.reader.now) (g.W.Write.contents c.args.writer.now) (g.W.Write.contents c.write_plan.new.writer)
    _ _ c.in_ok-end.end c.in_ok-end.made c.in_ok-bytes.ensures.ok c.in_ok-bytes.ensures.short (ap (take c.in_ok-end.end) c.deref-2.ensures.value)
    (subst (λ (t : List ℕ). IsPlannedText t c.in_ok-end.end c.in_ok-end.made) c.deref.ensures.value c.in_ok-end.ensures.ok) c.write_plan.ensures.ok
