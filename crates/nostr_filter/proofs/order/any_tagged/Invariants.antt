use Rattle.std.proofs.Common.{◌≡◌, ◌∷◌, drop}
use Rattle.std.specs.List.{list_any}
use Rattle.nostr_filter.specs.Members.{has_text}
use Rattle.nostr_filter.specs.TagOrders.{keys_of}
use Rattle.nostr_filter.proofs.order.any_tagged.Given as goal

abbrev pub invariant-loop-value : goal.invariant-loop-value
invariant-loop-value l = list_any (λ v. has_text (keys_of l.tags) (l.letter ∷ v)) (drop l.value-index l.values) ≡ list_any (λ v. has_text (keys_of l.tags) (l.letter ∷ v)) l.values
