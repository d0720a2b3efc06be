use Rattle.std.proofs.Common.{◌≡◌, ◌≤◌, length, map, take}
use Rattle.std.specs.Arc.{arc_value}
use Rattle.event_store.specs.Events.{placings}
use Rattle.event_store.proofs.desk.Desk.insert_each.Given as goal

abbrev pub invariant-loop-at : goal.invariant-loop-at
invariant-loop-at g l = record {
  placed : l.placed.items ≡ placings (take l.at (take (length l.fresh.items) (map arc_value l.events))) l.fn.self l.self;
  room : length l.fresh.items ≤ l.placed.cap;
  count : length l.placed.items ≡ l.at;
}
