use Rattle.std.proofs.Common.{◌≡◌, ◌++◌, ◌∷◌, [], ℕ, List, map, sym, ap, subst}
use Rattle.std.specs.List.{All}
use Rattle.std.proofs.lemmas.List.Elements.{All-nil, All-push}
use Rattle.item_key.specs.declared.Id.{Id}
use Rattle.sharing.specs.Offers.{IsOffers, Ascend}
use Rattle.plan_check.specs.TextLines.{lines_of, ended}
use Rattle.plan_check.specs.PlanText.{IsOffer}
use Rattle.plan_check.proofs.FormLemmas.{offered}
use Rattle.plan_check.proofs.KindLemmas.{more_lines}
use Rattle.plan_check.proofs.Taken.{no_offers}
use Rattle.plan_run.proofs.Fronts.{offers_push}
use Rattle.plan_run.proofs.offers.take_offers.Goals as goal

pub loop-line-init : goal.loop-line-init
loop-line-init c = record {
  lines = ap (λ os. map offered os ++ lines_of c.args.text.now) (sym c.new-offers.ensures.items);
  form = subst (All IsOffer) (sym c.new-offers.ensures.items) (All-nil IsOffer);
  ordered = subst IsOffers (sym c.new-offers.ensures.items) no_offers;
}

pub comes_behind-requires : goal.comes_behind-requires
comes_behind-requires c = subst (λ os. Ascend (map (λ (o : Id × List ℕ). o.0) os)) (sym c.deref.ensures.value) c.loop-line.invariant.ordered.ascend

pub loop-line-preserved : goal.loop-line-preserved
loop-line-preserved c =
    let h = c.loop-line.invariant in
    let offers : List (Id × List ℕ) = c.loop-line.offers.items in
    let offer : Id × List ℕ = c.in-Some-parse_offer.offer in
    let told = c.in-Some-parse_offer.ensures in
    let pushed : c.push.new.self.items ≡ offers ++ offer ∷ [] = c.in_ok-push.ensures.items in
    record {
      lines = rw pushed (more_lines offered offers offer c.in-Some.line.now _ _ _ h.lines c.in-Some.ensures.lines (ap ended (sym told.found)));
      form = rw pushed (All-push IsOffer offers offer h.form told.offer);
      ordered = rw pushed (offers_push offers offer h.ordered (subst (λ os. Ascend (map (λ (o : Id × List ℕ). o.0) os ++ offer.0 ∷ [])) c.deref.ensures.value (c.comes_behind.ensures c.if-not-comes_behind.false)) told.relays told.offer.some);
    }
