use Rattle.std.proofs.Common.{◌≡◌, List, take, drop}
use Rattle.nostr_filter.specs.declared.filter.Filter.{Filter}
use Rattle.nostr_wire.specs.Reading.{kept_filters}
use Rattle.nostr_wire.proofs.Several.{AreFilters}
use Rattle.nostr_wire.proofs.reading.filters_of.Given as goal

abbrev pub invariant-loop-value : goal.invariant-loop-value
invariant-loop-value l = (all : List Filter) × (l.filters.items ≡ kept_filters l.most all) × AreFilters all (take l.value-index l.initial.values) × (drop l.value-index l.values ≡ drop l.value-index l.initial.values)
