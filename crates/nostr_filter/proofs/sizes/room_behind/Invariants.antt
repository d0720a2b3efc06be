use Rattle.std.proofs.Common.{◌≡◌, ◌+◌, drop}
use Rattle.nostr_filter.specs.Sizes.{sizes_of}
use Rattle.nostr_filter.proofs.sizes.room_behind.Given as goal

abbrev pub invariant-loop-filter : goal.invariant-loop-filter
invariant-loop-filter l = l.left + sizes_of l.filters ≡ l.room + sizes_of (drop l.filter-index l.filters)
