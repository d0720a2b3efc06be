use Rattle.std.proofs.Common.{◌≡◌, ◌++◌, ◌∷◌, [], ℕ, List, true, map, None, sym, ap, subst, ◌∙◌}
use Rattle.std.specs.Global.{Vec}
use Rattle.std.specs.List.{All}
use Rattle.std.proofs.lemmas.List.{map-append}
use Rattle.std.proofs.lemmas.List.Elements.{All-nil, All-push}
use Rattle.item_key.specs.declared.Id.{Id}
use Rattle.sharing.specs.Offers.{IsOffers, id_cmp}
use Rattle.plan_check.specs.File.{pairs_of}
use Rattle.plan_check.specs.TextLines.{lines_of, ended}
use Rattle.plan_check.specs.PlanText.{offer_line, IsOffer}
use Rattle.plan_check.proofs.FormLemmas.{offered}
use Rattle.plan_check.proofs.KindLemmas.{more_lines}
use Rattle.plan_check.proofs.Runs.{last_from, last_push}
use Rattle.plan_check.proofs.Taken.{no_offers, behind_push, offers_push}
use Rattle.plan_check.proofs.reading.take_offers.Goals as goal

abbrev id_of : Id × List ℕ → Id
id_of o = o.0

pub loop-line-init : goal.loop-line-init
loop-line-init c =
    let none = sym c.new-offers.ensures.items in
    record {
      lines = ap (λ os. map offered (pairs_of os) ++ lines_of c.args.text.now) none;
      form = subst (λ os. All IsOffer (pairs_of os)) none (All-nil IsOffer);
      ordered = subst (λ os. IsOffers (pairs_of os)) none no_offers;
      last = ap (λ os. last_from id_of None (pairs_of os)) none;
    }

pub loop-line-preserved : goal.loop-line-preserved
loop-line-preserved c =
    let inv = c.loop-line.invariant in
    let offers = c.loop-line.offers.items in
    let pair : Id × Vec ℕ → Id × List ℕ = λ o. (o.0, o.1.items) in
    let offer = pair c.in-Some-2.offer in
    let line = λ (o : Id × List ℕ). ended (offer_line o) in
    let pushed : pairs_of c.push.new.self.items ≡ pairs_of offers ++ offer ∷ [] = ap pairs_of c.in_ok-push.ensures.items ∙ map-append pair offers (c.in-Some-2.offer ∷ []) in
    let found = rw c.in-Some-2.is at c.in_ok-offer.ensures.found in
    let is = rw c.in-Some-2.is at c.in_ok-offer.ensures.offer in
    let relays = rw c.in-Some-2.is at c.in_ok-offer.ensures.relays in
    let ascend = behind_push id_of (pairs_of offers) offer c.loop-line.before inv.ordered.ascend inv.last (sym c.comes_behind.ensures ∙ c.if-not-comes_behind.false) in
    record {
      lines = rw pushed (more_lines line (pairs_of offers) offer c.in-Some.line.now _ _ _ inv.lines c.in-Some.ensures.lines (ap ended (sym found)));
      form = rw pushed (All-push IsOffer (pairs_of offers) offer inv.form is);
      ordered = rw pushed (offers_push (pairs_of offers) offer inv.ordered ascend relays is.some);
      last = rw pushed (sym (last_push id_cmp id_of (λ _. true) None (pairs_of offers) offer));
    }
