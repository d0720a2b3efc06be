use Rattle.std.proofs.Common.{◌≡◌, drop}
use Rattle.std.specs.List.{list_all}
use Rattle.nostr_filter.specs.Matching.{tags_meet}
use Rattle.nostr_filter.proofs.order.all_by.Given as goal

abbrev pub invariant-loop-condition : goal.invariant-loop-condition
invariant-loop-condition l = list_all (tags_meet l.tags) (drop l.condition-index l.conditions) ≡ list_all (tags_meet l.tags) l.conditions
