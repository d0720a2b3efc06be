use Rattle.std.proofs.Common.{◌≡◌, ◌∙◌, ◌||◌, List, ℕ, Bool, true, false, Some, get_or, true≢false, refl, sym, ap, arith}
use Rattle.std.proofs.lemmas.List.{drop_all}
use Rattle.serde_json.specs.View.{view}
use Rattle.nostr_filter.specs.Tags.{letters}
use Rattle.nostr_filter.specs.FilterJson.{conditions_of, tag_tests, first_failing}
use Rattle.nostr_filter.proofs.Standing.{fifty_two, letters_are, small_letter}
use Rattle.nostr_filter.proofs.TagReading.{passed_step, failed_step, missing_step}
use Rattle.nostr_filter.proofs.Tagged.{no_conditions, none_fails}
use Rattle.nostr_filter.proofs.tested.letters_found.Goals as goal

neither : (a b : Bool) → (a || b) ≡ false → (a ≡ false) × (b ≡ false)
neither true b e = absurd (true≢false e)
neither false b e = (refl, e)

pub returns-then-not-may_be_tagged-clause-none : goal.returns-then-not-may_be_tagged-clause-none
returns-then-not-may_be_tagged-clause-none c = λ e. no_conditions letters (view c.args.value.now) (c.may_be_tagged.ensures c.if-not-may_be_tagged.true)

pub returns-then-not-may_be_tagged-clause-passed : goal.returns-then-not-may_be_tagged-clause-passed
returns-then-not-may_be_tagged-clause-passed c = none_fails letters (view c.args.value.now) (c.may_be_tagged.ensures c.if-not-may_be_tagged.true)

pub condition_found-requires : goal.condition_found-requires
condition_found-requires c =
    let read = ap (λ (l : List ℕ). get_or l c.loop-letter.letter-index 0) letters_are in
    omega (arith, read, small_letter c.loop-letter.letter-index c.loop-letter-test.true)

pub returns-in_default-clause-failed : goal.returns-in_default-clause-failed
returns-in_default-clause-failed c =
    let i = c.loop-letter.letter-index in
    let read = ap (λ (l : List ℕ). get_or l i 0) letters_are in
    let failed = sym (rw c.in_default.is at c.condition_found.ensures.shape) in
    c.loop-letter.invariant.passed ∙ failed_step letters (view c.args.value.now) i _ (omega (arith, fifty_two)) read failed

pub loop-letter-preserved : goal.loop-letter-preserved
loop-letter-preserved c =
    let d = view c.args.value.now in
    let i = c.loop-letter.letter-index in
    let read = ap (λ (l : List ℕ). get_or l i 0) letters_are in
    let passed = sym (rw c.in-Some.is at c.condition_found.ensures.shape) in
    record {
      passed = c.loop-letter.invariant.passed ∙ passed_step letters d i _ (omega (arith, fifty_two)) read passed;
      none = λ no.
          let both = neither c.loop-letter.is_tagged c.in-Some.is_there no in
          let missing = c.condition_found.ensures.missing (c.in-Some.is ∙ ap Some both.1) in
          c.loop-letter.invariant.none both.0 ∙ missing_step letters d i _ (omega (arith, fifty_two)) read missing;
    }

pub returns-clause-none : goal.returns-clause-none
returns-clause-none c = λ e.
    let no : c.loop-letter.is_tagged ≡ false = cc in
    let over = drop_all c.loop-letter.letter-index letters (omega (arith, fifty_two)) in
    c.loop-letter.invariant.none no ∙ ap (λ l. conditions_of l (view c.args.value.now)) over

pub returns-clause-passed : goal.returns-clause-passed
returns-clause-passed c =
    let over = drop_all c.loop-letter.letter-index letters (omega (arith, fifty_two)) in
    c.loop-letter.invariant.passed ∙ ap (λ l. first_failing (tag_tests l (view c.args.value.now))) over
