use Rattle.std.proofs.Common.{◌≡◌, false, drop}
use Rattle.serde_json.specs.View.{view}
use Rattle.nostr_filter.specs.Tags.{letters}
use Rattle.nostr_filter.specs.FilterJson.{conditions_of, tag_tests, first_failing}
use Rattle.nostr_filter.proofs.tested.letters_found.Given as goal

abbrev pub invariant-loop-letter : goal.invariant-loop-letter
invariant-loop-letter l = record {
  passed : first_failing (tag_tests letters (view l.value)) ≡ first_failing (tag_tests (drop l.letter-index letters) (view l.value));
  none : l.is_tagged ≡ false → conditions_of letters (view l.value) ≡ conditions_of (drop l.letter-index letters) (view l.value);
}
