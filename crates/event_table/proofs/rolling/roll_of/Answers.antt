use Rattle.std.proofs.Common.{map}
use Rattle.std.proofs.lemmas.List.Sorted.{IsPermutation-trans}
use Rattle.nostr_event.specs.EventView.{item_of}
use Rattle.event_table.proofs.rolling.roll_of.Goals as goal

pub returns-in-Ok : goal.returns-in-Ok
returns-in-Ok c = IsPermutation-trans (map item_of c.args.events.now) c.in_ok-items.items.items c.in-Ok.roll c.in_ok-items.ensures c.in-Ok.ensures.ok
