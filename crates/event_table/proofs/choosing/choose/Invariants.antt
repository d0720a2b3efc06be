use Rattle.std.proofs.Common.{◌≡◌, List, map, flat_map, take}
use Rattle.std.specs.Arc.{arc_value}
use Rattle.std.specs.declared.alloc.Global.{Global}
use Rattle.std.specs.declared.sync.Arc.{Arc}
use Rattle.nostr_event.specs.EventView.{EventView}
use Rattle.nostr_filter.specs.Choice.{picked}
use Rattle.event_table.proofs.choosing.choose.Given as goal

abbrev pub invariant-loop-filter : goal.invariant-loop-filter
invariant-loop-filter l = (events : List (Arc EventView Global)) → map arc_value events ≡ l.table → l.all.items ≡ flat_map (picked events) (take l.filter-index l.filters)
