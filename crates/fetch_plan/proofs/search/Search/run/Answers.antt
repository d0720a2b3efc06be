use Rattle.std.proofs.Common.{◌<◌, ◌≤◌, ◌+◌, arith, ap, get_or, length}
use Rattle.fetch_plan.proofs.Readers.{count_done}
use Rattle.fetch_plan.proofs.Reached.{searching_none, searching_step, is_closed}
use Rattle.fetch_plan.proofs.search.Search.run.Goals as goal

pub turns-init : goal.turns-init
turns-init c = searching_none _ _ _ _ c.requires.reach c.requires.start

pub turns-smaller : goal.turns-smaller
turns-smaller c =
    let inv = c.turns.invariant in
    let n = c.in-Some.ensures.next in
    omega (arith, inv.counted, count_done c.turns.done c.in-Some.relay (omega (arith, n.0, inv.wide)) n.2)

pub turns-preserved : goal.turns-preserved
turns-preserved c =
    let inv = c.turns.invariant in
    let n = c.in-Some.ensures.next in
    let lt : c.in-Some.relay < length c.turns.done = omega (arith, n.0, inv.wide) in
    let high : c.args.most ≤ get_or c.args.loads.now c.in-Some.relay 0 + 1 = omega (arith, c.if-most-loads-gt1.false, ap (λ r. get_or c.args.loads.now r 0) c.from-slot.ensures) in
    let found = c.reach_from.ensures in
    rw c.from-slot.ensures
    (searching_step _ _ _ _ _ _ c.in-Some.relay inv lt n.2 (count_done c.turns.done c.in-Some.relay lt n.2) high found.turn (found.reach c.args.loads.now c.args.most inv.reach) found.stay found.closed)

pub returns-clause-closed : goal.returns-clause-closed
returns-clause-closed c = is_closed _ _ _ _ _ c.turns.invariant c.in_default.ensures.none
