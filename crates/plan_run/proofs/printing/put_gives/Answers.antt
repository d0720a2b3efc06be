use Rattle.std.proofs.Common.{arith}
use Rattle.plan_run.proofs.Written.{Appends-both, Appends-same}
use Rattle.plan_run.proofs.Gathered.{one_more}
use Rattle.plan_check.proofs.FormLemmas.{given}
use Rattle.plan_run.proofs.printing.put_gives.Goals as goal

pub loop-place-preserved : goal.loop-place-preserved
loop-place-preserved g c =
    Appends-same _ _ _ _ (one_more given c.args.plan.now.gives c.loop-place.place _ (omega (arith, c.loop-place-test.true, c.len-place-end.ensures.value)) c.cell-relay.ensures)
    (Appends-both _ _ _ _ _ c.loop-place.invariant (Appends-same _ _ _ _ c.set_give-end.ensures.text c.in_ok-put.ensures))
