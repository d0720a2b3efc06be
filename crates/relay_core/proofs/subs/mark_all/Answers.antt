use Rattle.std.proofs.Common.{◌+◌, refl}
use Rattle.relay_core.proofs.Placing.{marked_more}
use Rattle.relay_core.proofs.subs.mark_all.Goals as goal

pub loop-sub-preserved : goal.loop-sub-preserved
loop-sub-preserved c =
    rw c.further-sub.ensures (marked_more c.args.front c.args.subs.now c.loop-sub.subs c.loop-sub.sub-index (c.loop-sub.sub-index + 1) c.sub-item.result refl c.loop-sub-test.true c.loop-sub.invariant)
