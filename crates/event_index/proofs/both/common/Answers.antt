use Rattle.std.proofs.Common.{◌≡◌, ◌∙◌, ℕ, ◌<◌, ◌+◌, false, List, get_or, take, subst, sym, ap, arith}
use Rattle.std.specs.Prelude.{Contains}
use Rattle.std.proofs.lemmas.List.{take_all, get_or_default}
use Rattle.event_index.proofs.Sifting.{Sifted, sifted_put, sifted_left}
use Rattle.event_index.proofs.both.common.Goals as goal
use Rattle.event_index.proofs.both.common.Goals.{then-place-limit+then-index+in_ok-push, else-place-limit, else-place-limit-via-then-place-limit+else-index, else-place-limit-via-else-place-limit}

pub loop-place-preserved : goal.loop-place-preserved
loop-place-preserved c =
    let there = c.in_ok-there.there.items in
    let places = c.args.places.now in
    let k = c.loop-place.place-index in
    elim c.if-place-limit.branch [
      | then-place-limit+then-index+in_ok-push w ↦
          sifted_put c.args.limit there places c.loop-place.both.items c.if-place-limit.both.items k c.loop-place-test.true w.if-place-limit.true (ap (λ v. v.items) w.both-is ∙ w.in_ok-push.ensures.items) c.loop-place.invariant
      | else-place-limit w ↦
          let is_not : get_or places k 0 < c.args.limit → get_or there (get_or places k 0) false ≡ false =
          elim w.else-place-limit.branch [
            | else-place-limit-via-then-place-limit+else-index v ↦ λ low. get_or_default there (get_or places k 0) false v.index.result.now (subst (λ (n : ℕ). get_or places k 0 < n) (sym c.in_ok-there.ensures.length) low) ∙ sym v.index.ensures ∙ v.if-index.false
            | else-place-limit-via-else-place-limit v ↦ λ low. absurd (omega (arith, v.if-place-limit.false, low))
          ] in
          subst (λ (ps : List ℕ). Sifted c.args.limit there (take (k + 1) places) ps) (sym (ap (λ v. v.items) w.both-is)) (sifted_left c.args.limit there places c.loop-place.both.items k c.loop-place-test.true is_not c.loop-place.invariant)
    ]

pub returns-clause-whole : goal.returns-clause-whole
returns-clause-whole c = λ i low listed other. c.loop-place.invariant.whole i low (subst (λ (ps : List ℕ). Contains ps i) (sym (take_all c.loop-place.place-index c.args.places.now c.loop-place-test.false)) listed) (c.in_ok-there.ensures.noted i low other)
