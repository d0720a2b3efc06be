use Rattle.std.proofs.Common.{◌≡◌}
use Rattle.nostr_filter.specs.Matching.{tags_meet}
use Rattle.nostr_filter.proofs.filter.condition_met.Given as goal

abbrev pub invariant-loop-tag : goal.invariant-loop-tag
invariant-loop-tag l = tags_meet l.tag-iterator l.condition ≡ tags_meet l.tags l.condition
