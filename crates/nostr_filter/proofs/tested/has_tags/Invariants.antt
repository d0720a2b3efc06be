use Rattle.std.proofs.Common.{◌≡◌}
use Rattle.nostr_filter.proofs.Tagged.{any_tag, names_of}
use Rattle.nostr_filter.proofs.tested.has_tags.Given as goal

abbrev pub invariant-loop-name : goal.invariant-loop-name
invariant-loop-name l = any_tag (names_of l.members.entries) ≡ any_tag l.name-iterator
