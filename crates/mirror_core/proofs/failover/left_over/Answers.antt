use Rattle.std.proofs.Common.{sym, subst}
use Rattle.sharing.specs.Offers.{IsOffers}
use Rattle.mirror_core.proofs.Kept.{each_next, each_whole, kept_offers, left_of_all}
use Rattle.mirror_core.proofs.failover.left_over.Goals as goal

pub loop-offer-preserved : goal.loop-offer-preserved
loop-offer-preserved c = each_next c.args.stopped c.list-offers.result.now c.loop-offer.left.items c.push.new.self.items c.loop-offer.offer-index c.offer-item.result c.kept.result
    c.loop-offer-test.true c.offer-item.is c.loop-offer.invariant c.kept.ensures.kept c.kept.ensures.ordered c.in_ok-push.ensures.items

pub of_sets-requires : goal.of_sets-requires
of_sets-requires c =
    let each = each_whole c.args.stopped c.list-offers.result.now c.loop-offer.left.items c.loop-offer.offer-index c.loop-offer-test.false c.loop-offer.invariant in
    kept_offers c.args.stopped c.list-offers.result.now c.loop-offer.left.items each (subst IsOffers (sym c.list-offers.ensures.value) c.list-offers.ensures.table.offers_ok)

pub returns-in-Ok : goal.returns-in-Ok
returns-in-Ok c =
    let each = each_whole c.args.stopped c.list-offers.result.now c.loop-offer.left.items c.loop-offer.offer-index c.loop-offer-test.false c.loop-offer.invariant in
    left_of_all c.args.stopped c.args.table.now.offers c.list-offers.result.now c.loop-offer.left.items c.in-Ok.table.offers each c.list-offers.ensures.value c.in-Ok.ensures.offers c.list-offers.ensures.table.offers_ok
