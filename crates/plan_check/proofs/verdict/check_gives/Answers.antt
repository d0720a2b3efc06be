use Rattle.std.proofs.Common.{◌≡◌, true, false, sym, ◌∙◌}
use Rattle.plan_check.specs.Verdict.{is_not_offered, is_missing, is_stranger}
use Rattle.plan_check.proofs.Judged.{fault_none, fault_first, fault_second, fault_third, lent_not_offered, lent_missing, lent_stranger}
use Rattle.plan_check.proofs.verdict.check_gives.Goals as goal

pub returns-then-has_unoffered-clause-err : goal.returns-then-has_unoffered-clause-err
returns-then-has_unoffered-clause-err c =
    let file = c.args.file.now in
    let a : is_not_offered file ≡ true = sym (lent_not_offered file _ _ c.offers-offers.ensures.value c.gives-gives.ensures.value) ∙ sym c.has_unoffered.ensures ∙ c.if-has_unoffered.true in
    fault_first file c.offers-offers.ensures.file a

pub returns-then-has_missing-clause-err : goal.returns-then-has_missing-clause-err
returns-then-has_missing-clause-err c =
    let file = c.args.file.now in
    let a : is_not_offered file ≡ false = sym (lent_not_offered file _ _ c.offers-offers.ensures.value c.gives-gives.ensures.value) ∙ sym c.has_unoffered.ensures ∙ c.if-has_unoffered.false in
    let b : is_missing file ≡ true = sym (lent_missing file _ _ c.offers-offers.ensures.value c.gives-gives.ensures.value) ∙ sym c.has_missing.ensures ∙ c.if-has_missing.true in
    fault_second file c.offers-offers.ensures.file a b

pub returns-then-has_stranger-clause-err : goal.returns-then-has_stranger-clause-err
returns-then-has_stranger-clause-err c =
    let file = c.args.file.now in
    let a : is_not_offered file ≡ false = sym (lent_not_offered file _ _ c.offers-offers.ensures.value c.gives-gives.ensures.value) ∙ sym c.has_unoffered.ensures ∙ c.if-has_unoffered.false in
    let b : is_missing file ≡ false = sym (lent_missing file _ _ c.offers-offers.ensures.value c.gives-gives.ensures.value) ∙ sym c.has_missing.ensures ∙ c.if-has_missing.false in
    let s : is_stranger file ≡ true = sym (lent_stranger file _ _ c.offers-offers.ensures.value c.gives-gives.ensures.value) ∙ sym c.has_stranger.ensures ∙ c.if-has_stranger.true in
    fault_third file c.offers-offers.ensures.file a b s

pub returns-clause-ok : goal.returns-clause-ok
returns-clause-ok c =
    let file = c.args.file.now in
    let a : is_not_offered file ≡ false = sym (lent_not_offered file _ _ c.offers-offers.ensures.value c.gives-gives.ensures.value) ∙ sym c.has_unoffered.ensures ∙ c.if-has_unoffered.false in
    let b : is_missing file ≡ false = sym (lent_missing file _ _ c.offers-offers.ensures.value c.gives-gives.ensures.value) ∙ sym c.has_missing.ensures ∙ c.if-has_missing.false in
    let s : is_stranger file ≡ false = sym (lent_stranger file _ _ c.offers-offers.ensures.value c.gives-gives.ensures.value) ∙ sym c.has_stranger.ensures ∙ c.if-has_stranger.false in
    fault_none file c.offers-offers.ensures.file a b s
