use Rattle.std.proofs.Common.{arith}
use Rattle.offer_table.proofs.SideBySide.{total_step, taken_ascends}
use Rattle.offer_table.proofs.combined.count_both.Goals as goal

pub loop-next-preserved : goal.loop-next-preserved
loop-next-preserved c =
    let n = c.in-Some.next in
    let h = c.in-Some.ensures in
    record {
      total_is = omega (arith, c.loop-next.invariant.total_is, total_step c.loop-next.first.now c.loop-next.second.now n.id n.mine n.theirs n.more.now n.rest.now h);
      first = taken_ascends n.id c.loop-next.first.now n.mine n.more.now h.first c.loop-next.invariant.first;
      second = taken_ascends n.id c.loop-next.second.now n.theirs n.rest.now h.second c.loop-next.invariant.second;
    }

pub loop-next-smaller : goal.loop-next-smaller
loop-next-smaller c = let n = c.in-Some.next in omega (arith, total_step c.loop-next.first.now c.loop-next.second.now n.id n.mine n.theirs n.more.now n.rest.now c.in-Some.ensures)
