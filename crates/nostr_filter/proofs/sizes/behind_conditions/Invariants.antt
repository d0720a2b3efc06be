use Rattle.std.proofs.Common.{◌≡◌, ◌+◌, drop}
use Rattle.nostr_filter.specs.Sizes.{conditions_size}
use Rattle.nostr_filter.proofs.sizes.behind_conditions.Given as goal

abbrev pub invariant-loop-condition : goal.invariant-loop-condition
invariant-loop-condition l = l.left + conditions_size l.conditions ≡ l.room + conditions_size (drop l.condition-index l.conditions)
