use Rattle.std.proofs.Common.{◌≡◌, ◌≤◌, length, map, take}
use Rattle.std.specs.Arc.{arc_value}
use Rattle.event_table.specs.Events.{freshness, with_events}
use Rattle.event_table.proofs.listing.Listing.with_all.Given as goal

abbrev pub invariant-loop-at : goal.invariant-loop-at
invariant-loop-at l = record {
  list : l.all ≡ with_events (take l.at (map arc_value l.others)) l.fn.self;
  fresh : l.fresh.items ≡ freshness (take l.at (map arc_value l.others)) l.fn.self;
  count : length l.fresh.items ≡ l.at;
  cap : length l.others ≤ l.fresh.cap;
  room : length l.all ≤ l.most;
}
