use Rattle.std.proofs.Common.{◌≡◌, flat_map, take}
use Rattle.nostr_filter.specs.Choice.{picked}
use Rattle.nostr_filter.proofs.choice.choose.Given as goal

abbrev pub invariant-loop-filter : goal.invariant-loop-filter
invariant-loop-filter l = l.all.items ≡ flat_map (picked l.events) (take l.filter-index l.filters)
