use Rattle.std.proofs.Common.{arith, refl, sym, subst, length}
use Rattle.fetch_plan.specs.Chains.{IsBeyond}
use Rattle.fetch_plan.proofs.Readers.{small_in}
use Rattle.fetch_plan.proofs.Reached.{is_settled}
use Rattle.fetch_plan.proofs.chains.settle_once.Goals as goal

pub run-requires-clause-reach : goal.run-requires-clause-reach
run-requires-clause-reach c = c.new-search.ensures.reach _

pub shift-requires-clause-to : goal.shift-requires-clause-to
shift-requires-clause-to c = let i = c.in-Some.ensures in small_in _ c.in-Some.end i.reach.relays i.low.known

pub shift-requires-clause-gap : goal.shift-requires-clause-gap
shift-requires-clause-gap c = let i = c.in-Some.ensures in omega (arith, i.low.low, c.walk-from.ensures.start _ _ _ i.reach)

pub returns-in-None-clause-settled : goal.returns-in-None-clause-settled
returns-in-None-clause-settled c =
    let offers = c.args.offers.now in
    let takers = c.args.takers.now in
    let g = c.greatest-most.ensures in
    let n = c.in-None.ensures in
    (c.greatest-most.result, is_settled offers takers (length takers) _ _ _ _ refl (subst (λ b. IsBeyond offers takers (length takers) b) (sym c.deref.ensures.value) c.in_ok-beyond.ensures.beyond) g.bound g.one n.reach n.closed)

pub returns-clause-loads : goal.returns-clause-loads
returns-clause-loads c r lt = omega (arith, c.walk-from.ensures.moved r, c.shift.ensures.moved r)
