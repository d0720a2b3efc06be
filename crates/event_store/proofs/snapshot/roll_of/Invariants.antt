use Rattle.std.proofs.Common.{◌≡◌, map, take}
use Rattle.nostr_event.specs.EventView.{item_of}
use Rattle.event_store.proofs.snapshot.roll_of.Given as goal

abbrev pub invariant-loop-place : goal.invariant-loop-place
invariant-loop-place l = l.items.items ≡ map item_of (take l.place l.events)
