use Rattle.std.proofs.Common.{◌≡◌, ◌++◌, map, take}
use Rattle.nostr_event.specs.EventView.{item_of}
use Rattle.event_table.proofs.rolling.items_from.Given as goal

abbrev pub invariant-loop-place : goal.invariant-loop-place
invariant-loop-place l = map item_of (take l.start l.events) ++ l.items.items ≡ map item_of (take l.place l.events)
