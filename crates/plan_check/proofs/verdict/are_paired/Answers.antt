use Rattle.std.proofs.Common.{◌≡◌, ◌<◌, ℕ, List, [], length, get_or, sym, ap, ◌∙◌, subst, arith}
use Rattle.std.specs.Global.{Vec}
use Rattle.std.proofs.lemmas.List.{get_or-map, length-map}
use Rattle.item_key.specs.declared.Id.{Id}
use Rattle.sharing.specs.Sharing.{is_among}
use Rattle.plan_check.specs.File.{pairs_of}
use Rattle.plan_check.proofs.Judged.{Fits, fits_more, lent_paired}
use Rattle.plan_check.proofs.verdict.are_paired.Goals as goal

pub loop-place-init : goal.loop-place-init
loop-place-init c = λ k o g lt. absurd (omega (arith, lt))

pub loop-place-preserved : goal.loop-place-preserved
loop-place-preserved c =
    let offers = c.offers-offers.result.now in
    let gives = c.gives-gives.result.now in
    let place : ℕ = c.loop-place.place in
    let offer : Id × Vec ℕ = c.index-offers-place.result in
    let none : Id × ℕ = (record { 0 = [] }, 0) in
    let give : Id × ℕ = get_or gives place none in
    let same : offer.0 ≡ give.0 = c.is_same.ensures.0 c.if-not-is_same.false in
    let pair : Id × Vec ℕ → Id × List ℕ = λ o. (o.0, o.1.items) in
    let within : place < length offers = omega (arith, c.if-offers-gives.false, c.loop-place-test.true) in
    let here : get_or (pairs_of offers) place (pair offer) ≡ pair offer = get_or-map pair offers place offer (pair offer) within ∙ ap pair (sym c.index-offers-place.is) in
    let fits : Fits (pair offer) give = record {
      id = sym same;
      offered = ap (λ rs. is_among rs give.1) (sym c.deref.ensures.value) ∙ sym c.is_one_of.ensures ∙ c.if-not-is_one_of.false;
    } in
    fits_more (pairs_of offers) gives place (pair offer) none (omega (arith, within, length-map offers pair)) c.loop-place-test.true c.loop-place.invariant (subst (λ o. Fits o give) (sym here) fits)

pub returns : goal.returns
returns c = λ _.
    let offers = c.offers-offers.result.now in
    let gives = c.gives-gives.result.now in
    lent_paired c.args.file.now c.offers-offers.ensures.file (pairs_of offers) gives c.offers-offers.ensures.value c.gives-gives.ensures.value (length-map offers _ ∙ c.if-offers-gives.false)
    (λ k o g lt. c.loop-place.invariant k o g (omega (arith, lt, c.loop-place-test.false)))
