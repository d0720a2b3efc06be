use Rattle.std.proofs.Common.{◌<◌, arith, sym, ap, subst, length}
use Rattle.sharing.specs.declared.TheConstants.{RELAYS}
use Rattle.fetch_plan.specs.Takers.{at}
use Rattle.fetch_plan.specs.Chains.{LeadsBelow}
use Rattle.fetch_plan.proofs.Readers.{small_in}
use Rattle.fetch_plan.proofs.Walks.{is_busiest, way, leads, walking_step}
use Rattle.fetch_plan.proofs.search.Search.walk.Goals as goal

pub place_of-place-requires-clause-leads : goal.place_of-place-requires-clause-leads
place_of-place-requires-clause-leads c =
    let i = c.back.invariant in
    let late : 0 < at c.args.self.now.turns c.back.at = omega (arith, ap (at c.args.self.now.turns) c.from.ensures, c.back-test.true) in
    subst (λ x. LeadsBelow c.args.offers.now c.back.takers (length c.back.takers) (at c.args.self.now.froms x) c.back.at) (sym c.from-in-back.ensures) (leads _ _ _ _ _ _ _ _ _ i.3 i.4 c.back.auto.takers i.5 late)

pub back-smaller : goal.back-smaller
back-smaller c =
    let i = c.back.invariant in
    let late : 0 < at c.args.self.now.turns c.back.at = omega (arith, ap (at c.args.self.now.turns) c.from.ensures, c.back-test.true) in
    subst (λ x. at c.args.self.now.turns (at c.args.self.now.froms x) < at c.args.self.now.turns c.back.at) (sym c.from-in-back.ensures) (way _ _ _ _ _ _ _ _ _ i.3 i.4 c.back.auto.takers i.5 late).earlier

pub back-preserved : goal.back-preserved
back-preserved c =
    let i = c.back.invariant in
    let late : 0 < at c.args.self.now.turns c.back.at = omega (arith, ap (at c.args.self.now.turns) c.from.ensures, c.back-test.true) in
    let found = c.place_of-place.ensures in (
      i.0,
      i.1,
      i.2,
      i.3,
      i.4,
      rw c.from-in-back.ensures
          (walking_step _ _ _ _ _ _ _ _ _ i.3 i.4 c.back.auto.takers i.5 late c.place_of-place.result found.within (rw c.from-in-back.ensures at found.giver) found.taker),
    )

pub bounds-self-from : goal.bounds-self-from
bounds-self-from c =
    let i = c.back.invariant in
    let lt : c.back.at < RELAYS = small_in c.args.self.now.reached c.back.at i.4.relays i.5.known in
    omega (arith, c.from.ensures, lt)

pub offset_bounds-self-from : goal.offset_bounds-self-from
offset_bounds-self-from c =
    let i = c.back.invariant in
    let lt : c.back.at < RELAYS = small_in c.args.self.now.reached c.back.at i.4.relays i.5.known in
    omega (arith, c.from.ensures, lt)

pub returns-clause-small : goal.returns-clause-small
returns-clause-small c = let i = c.back.invariant in small_in c.args.self.now.reached c.back.at i.4.relays i.5.known

pub returns-clause-start : goal.returns-clause-start
returns-clause-start c beyond loads most reach = is_busiest beyond loads most c.args.self.now reach c.back.at c.back.invariant.5.known (omega (arith, ap (at c.args.self.now.turns) c.from.ensures, c.back-test.false))
