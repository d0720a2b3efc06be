use Rattle.std.proofs.Common.{◌≡◌, ◌≤◌, drop, length}
use Rattle.nostr_filter.specs.Tags.{letters, stand_among, are_in_order}
use Rattle.nostr_filter.proofs.Standing.{letters_of}
use Rattle.nostr_filter.proofs.letters.is_in_order.Given as goal

abbrev pub invariant-loop-letter : goal.invariant-loop-letter
invariant-loop-letter l = record {
  within : l.next ≤ length l.list;
  left : are_in_order l.list ≡ stand_among (drop l.letter-index letters) (letters_of (drop l.next l.list));
}
