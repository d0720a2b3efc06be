use Rattle.std.proofs.Common.{◌++◌, map, take}
use Rattle.std.specs.Prelude.{IsPermutation}
use Rattle.nostr_event.specs.EventView.{item_of}
use Rattle.event_table.proofs.rolling.put_items.Given as goal

abbrev pub invariant-loop-at : goal.invariant-loop-at
invariant-loop-at l = IsPermutation (map item_of (take l.start l.events) ++ take l.at l.items.items) l.roll
