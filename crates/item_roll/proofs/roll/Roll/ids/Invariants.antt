use Rattle.std.proofs.Common.{◌≡◌, ◌-◌, ◌≤◌}
use Rattle.std.specs.List.{slice_range}
use Rattle.item_roll.specs.Parts.{ids_of}
use Rattle.item_roll.proofs.roll.Roll.ids.Given as goal

abbrev pub invariant-pieces : goal.invariant-pieces
invariant-pieces l = record {
  ids : l.ids.items ≡ ids_of (slice_range l.self l.lo l.from);
  from : l.lo ≤ l.from;
  upto : l.from ≤ l.hi;
}

abbrev pub decreases-pieces : goal.decreases-pieces
decreases-pieces l = l.hi - l.from
