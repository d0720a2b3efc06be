use Rattle.std.proofs.Common.{below_more, sym, ap, ◌∙◌, ◌<◌, length, arith, get_or, refl}
use Rattle.sharing.specs.Sharing.{is_among}
use Rattle.fetch_plan.proofs.Readers.{offered_is}
use Rattle.fetch_plan.proofs.search.place_of.Goals as goal
use Rattle.fetch_plan.proofs.search.place_of.Goals.{else-taker-from-via-then-taker-from+else-has, else-taker-from-via-else-taker-from}

pub loop-place-preserved : goal.loop-place-preserved
loop-place-preserved c =
    let offers = c.args.offers.now in
    let fits : c.loop-place.place < length offers = omega (arith, c.requires.long, c.loop-place-test.true) in
    below_more _ _ c.loop-place.invariant
    (elim c.else-taker-from.branch [
      | else-taker-from-via-then-taker-from+else-has w ↦ λ giver. ap (λ rs. is_among rs c.args.to) (offered_is offers c.loop-place.place (get_or offers c.loop-place.place w.index-offers-place.result) w.index-offers-place.result fits refl) ∙ sym w.has.ensures.value ∙ w.if-has.false
      | else-taker-from-via-else-taker-from w ↦ λ giver. absurd (w.if-taker-from.false giver)
    ])

pub returns-then-has-clause-taker : goal.returns-then-has-clause-taker
returns-then-has-clause-taker c =
    let o = c.index-offers-place.result in
    ap (λ rs. is_among rs c.args.to) (offered_is c.args.offers.now c.loop-place.place (get_or c.args.offers.now c.loop-place.place o) o (omega (arith, c.requires.long, c.loop-place-test.true)) refl) ∙ sym c.has.ensures.value ∙ c.if-has.true
