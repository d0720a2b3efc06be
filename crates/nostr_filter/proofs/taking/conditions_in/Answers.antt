use Rattle.std.proofs.Common.{◌<◌, ◌∙◌, List, ℕ, length, Some, get_or, sym, ap, arith}
use Rattle.std.proofs.lemmas.List.{drop_all}
use Rattle.serde_json.specs.Data.{object}
use Rattle.serde_json.specs.View.{members_view}
use Rattle.nostr_filter.specs.Tags.{letters}
use Rattle.nostr_filter.specs.FilterJson.{conditions_of}
use Rattle.nostr_filter.proofs.Standing.{fifty_two, letters_are, small_letter}
use Rattle.nostr_filter.proofs.Taken.{letters_above, same_conditions, same_tests}
use Rattle.nostr_filter.proofs.TagReading.{after, after_nothing, after_all, kept_none, kept_some, passed_at, test_step}
use Rattle.nostr_filter.proofs.taking.conditions_in.Goals as goal
use Rattle.nostr_filter.proofs.taking.conditions_in.Goals.{in-Some+in_ok-push, in_default}

pub loop-letter-init : goal.loop-letter-init
loop-letter-init c = record { read = rw c.new-conditions.ensures.items (sym (after_nothing _)); passed = c.requires }

pub take_condition-requires-clause-letter : goal.take_condition-requires-clause-letter
take_condition-requires-clause-letter c =
    let read = ap (λ (l : List ℕ). get_or l c.loop-letter.letter-index 0) letters_are in
    omega (arith, read, small_letter c.loop-letter.letter-index c.loop-letter-test.true)

pub take_condition-requires-clause-shape : goal.take_condition-requires-clause-shape
take_condition-requires-clause-shape c =
    let i = c.loop-letter.letter-index in
    let read = ap (λ (l : List ℕ). get_or l i 0) letters_are in
    passed_at letters (object (members_view c.loop-letter.members.entries)) i _ (omega (arith, fifty_two)) read c.loop-letter.invariant.passed

pub loop-letter-preserved : goal.loop-letter-preserved
loop-letter-preserved c =
    let i = c.loop-letter.letter-index in
    let d = object (members_view c.loop-letter.members.entries) in
    let left = object (members_view c.take_condition.new.members.entries) in
    let whole = conditions_of letters (object (members_view c.args.members.entries)) in
    let out = c.loop-letter.conditions.items in
    let below : i < length letters = omega (arith, fifty_two) in
    let read = ap (λ (l : List ℕ). get_or l i 0) letters_are in
    let found = c.in_ok-values.ensures.ok in
    let above = letters_above i _ below read in
    let others = c.in_ok-values.ensures.others in
    let passed = sym (same_tests _ _ d left above others) ∙ sym (test_step letters d i _ _ below read found) ∙ c.loop-letter.invariant.passed in
    let same = same_conditions _ _ d left above others in
    elim c.match-branch-2.branch [
      | in-Some+in_ok-push w ↦
          record {
            read = rw (w.conditions-is, w.in_ok-push.ensures.items) (kept_some whole d out i _ _ c.loop-letter.invariant.read below read (found ∙ ap Some w.in-Some.is) ∙ ap (after _) same);
            passed = passed;
          }
      | in_default w ↦
          record {
            read = rw w.conditions-is (kept_none whole d out i _ c.loop-letter.invariant.read below read (found ∙ ap Some w.in_default.is) ∙ ap (after _) same);
            passed = passed;
          }
    ]

pub returns : goal.returns
returns c =
    let items = c.loop-letter.conditions.items in
    let none = drop_all c.loop-letter.letter-index letters (omega (arith, fifty_two)) in
    c.loop-letter.invariant.read ∙ ap (λ l. after items (conditions_of l (object (members_view c.loop-letter.members.entries)))) none ∙ after_all items
