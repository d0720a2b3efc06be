use Rattle.std.proofs.Common.{arith, ap, get_or}
use Rattle.fetch_plan.proofs.Moves.{squares_fall}
use Rattle.fetch_plan.proofs.chains.shift.Goals as goal

pub returns-clause-smaller : goal.returns-clause-smaller
returns-clause-smaller c =
    let loads = c.args.loads.now in
    squares_fall loads c.from.result c.from-2.result 1 (omega arith) (omega arith) (omega arith)
    (omega (arith, c.requires.gap, ap (λ r. get_or loads r 0) c.from.ensures, ap (λ r. get_or loads r 0) c.from-2.ensures))
