use Rattle.std.proofs.Common.{◌≡◌, ◌<◌, ◌+◌, ℕ, arith, refl, sym, ap, ◌∙◌, subst, get_or, set, length, ◌||◌}
use Rattle.std.proofs.lemmas.List.{length-set}
use Rattle.sharing.specs.Sharing.{is_among}
use Rattle.fetch_plan.specs.Takers.{at, offered}
use Rattle.fetch_plan.specs.Chains.{IsBeyond, set_at}
use Rattle.fetch_plan.proofs.Readers.{offered_is, set_is}
use Rattle.fetch_plan.proofs.Reached.{beyond_none, beyond_more}
use Rattle.fetch_plan.proofs.chains.beyond_of.Goals as goal

pub loop-place-init : goal.loop-place-init
loop-place-init c = record { beyond = beyond_none _ _ _ c.in_ok-beyond.ensures.none; long = c.in_ok-beyond.ensures.long }

pub loop-place-preserved : goal.loop-place-preserved
loop-place-preserved c =
    let offers = c.args.offers.now in
    let takers = c.args.takers.now in
    let k : ℕ = c.loop-place.place in
    let o = get_or offers k c.index-offers-place.result in
    let items = c.loop-place.beyond.items in
    let slot : c.from-slot.result ≡ at takers k = c.from-slot.ensures in
    let fits : at takers k < length items = omega (arith, c.requires.small k c.loop-place-test.true, c.loop-place.invariant.long) in
    let was : set_at items (at takers k) ≡ c.index.result.now = set_is items (at takers k) c.index.result.now c.index.result.now fits (c.index.ensures ∙ ap (λ x. get_or items x c.index.result.now) slot) in
    let by : offered offers k ≡ o.1 = offered_is offers k o c.index-offers-place.result (omega (arith, c.requires.long, c.loop-place-test.true)) refl in
    record {
      beyond = subst (λ x. IsBeyond offers takers (k + 1) (set items x c.union.result)) (sym slot)
          (beyond_more offers takers k items c.union.result c.loop-place.invariant.beyond fits
          (λ r. c.union.ensures.member r ∙ sym (ap (λ xs. is_among xs r || is_among (offered offers k) r) was ∙ ap (λ xs. is_among c.index.result.now r || is_among xs r) by)));
      long = length-set items c.from-slot.result c.union.result ∙ c.loop-place.invariant.long;
    }

pub returns-clause-beyond : goal.returns-clause-beyond
returns-clause-beyond c = let all : c.loop-place.place ≡ length c.args.takers.now = omega arith in subst (λ n. IsBeyond c.args.offers.now c.args.takers.now n c.loop-place.beyond.items) all c.loop-place.invariant.beyond
