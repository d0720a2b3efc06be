use Rattle.std.proofs.Common.{◌≡◌, drop}
use Rattle.std.specs.List.{list_any}
use Rattle.nostr_filter.specs.Matching.{matches_of}
use Rattle.relay_core.proofs.catching.is_wanted.Given as goal

abbrev pub invariant-loop-filter : goal.invariant-loop-filter
invariant-loop-filter l = list_any (λ f. matches_of f l.event) (drop l.filter-index l.filters) ≡ list_any (λ f. matches_of f l.event) l.filters
