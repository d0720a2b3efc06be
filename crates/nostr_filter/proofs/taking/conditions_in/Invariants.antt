use Rattle.std.proofs.Common.{◌≡◌, None, drop}
use Rattle.serde_json.specs.Data.{object}
use Rattle.serde_json.specs.View.{members_view}
use Rattle.nostr_filter.specs.Tags.{letters}
use Rattle.nostr_filter.specs.FilterJson.{conditions_of, tag_tests, first_failing}
use Rattle.nostr_filter.proofs.TagReading.{after}
use Rattle.nostr_filter.proofs.taking.conditions_in.Given as goal

abbrev pub invariant-loop-letter : goal.invariant-loop-letter
invariant-loop-letter l = record {
  read : conditions_of letters (object (members_view l.fn.members.entries)) ≡ after l.conditions.items (conditions_of (drop l.letter-index letters) (object (members_view l.members.entries)));
  passed : first_failing (tag_tests (drop l.letter-index letters) (object (members_view l.members.entries))) ≡ None;
}
