use Rattle.std.proofs.Common.{◌≡◌, ◌-◌, ◌≤◌, length, take}
use Rattle.item_roll.proofs.run.Run.of_items.Given as goal

abbrev pub invariant-parts : goal.invariant-parts
invariant-parts g l = record {
  run : l.run ≡ take l.at l.items;
  within : l.at ≤ length l.items;
}

abbrev pub decreases-parts : goal.decreases-parts
decreases-parts g l = length l.items - l.at
