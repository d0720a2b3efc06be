use Rattle.std.proofs.Common.{ap, sym, ◌∙◌, ◌++◌, ℕ, List, arith, subst}
use Rattle.std.specs.Global.{Vec}
use Rattle.item_key.specs.declared.Id.{Id}
use Rattle.item_key.specs.Keys.{IsId}
use Rattle.sharing.specs.Offers.{AreRelays}
use Rattle.sharing.proofs.Orders.{All-unmap}
use Rattle.plan_check.proofs.FormLemmas.{offered}
use Rattle.plan_check.proofs.WriteLemmas.{offers_more, all_more}
use Rattle.plan_check.proofs.writing.put_offers.Goals as goal

pub loop-offer-preserved : goal.loop-offer-preserved
loop-offer-preserved c =
    let o = c.offer-item.result in
    let offers = c.args.offers.now in
    let id = λ (o : Id × Vec ℕ). IsId o.0 in
    let line = λ (relays : List ℕ). offered (o.0, relays) in
    let whole = c.set_offer-end.ensures.text ∙ ap line c.deref.ensures.value in
    record {
      written = offers_more offers c.loop-offer.offer-index o _ _ _ (omega arith) c.offer-item.is c.loop-offer.invariant.written (c.in_ok-extend_from_slice.ensures.items ∙ ap (λ (t : List ℕ). c.loop-offer.text.items ++ t) whole);
      ids = all_more id offers c.loop-offer.offer-index o (omega arith) c.loop-offer.invariant.ids (subst id c.offer-item.is c.set_offer-end.ensures.id);
    }

pub set_offer-end-requires-clause-relays : goal.set_offer-end-requires-clause-relays
set_offer-end-requires-clause-relays c =
    let offers = c.args.offers.now in
    let o = c.offer-item.result in
    let each = All-unmap (λ (o : Id × List ℕ). AreRelays o.1) (λ (o : Id × Vec ℕ). (o.0, o.1.items)) offers c.requires in
    subst AreRelays (ap (λ (o : Id × Vec ℕ). o.1.items) (sym c.offer-item.is) ∙ sym c.deref.ensures.value) (each c.loop-offer.offer-index o (omega arith))
