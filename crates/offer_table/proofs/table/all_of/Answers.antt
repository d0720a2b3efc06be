use Rattle.std.proofs.Common.{◌||◌, ℕ, List, take, sym, ap, ◌∙◌}
use Rattle.std.specs.List.{list_any}
use Rattle.std.proofs.lemmas.List.{take_all}
use Rattle.std.proofs.lemmas.List.Folds.{list_any_more}
use Rattle.item_key.specs.declared.Id.{Id}
use Rattle.sharing.specs.Sharing.{is_among}
use Rattle.offer_table.proofs.table.all_of.Goals as goal

pub loop-offer-init : goal.loop-offer-init
loop-offer-init c = λ r. ap (λ s. is_among s r) c.empty-all.ensures

pub loop-offer-preserved : goal.loop-offer-preserved
loop-offer-preserved c = λ r.
    c.union-all.ensures.member r
    ∙ ap (λ b. b || is_among c.offer-item.result.1 r) (c.loop-offer.invariant r)
    ∙ ap (λ (x : Id × List ℕ). list_any (λ (o : Id × List ℕ). is_among o.1 r) (take c.loop-offer.offer-index c.args.offers.now) || is_among x.1 r) c.offer-item.is
    ∙ sym (list_any_more (λ (o : Id × List ℕ). is_among o.1 r) c.args.offers.now c.loop-offer.offer-index c.offer-item.result c.loop-offer-test.true)

pub returns : goal.returns
returns c = λ r. c.loop-offer.invariant r ∙ ap (list_any (λ (o : Id × List ℕ). is_among o.1 r)) (take_all c.loop-offer.offer-index c.args.offers.now c.loop-offer-test.false)
