use Rattle.std.proofs.Common.{◌≡◌, ◌++◌, ◌+◌, ◌≤◌, length, map, All}
use Rattle.mirror_run.specs.Lines.{lines_of}
use Rattle.mirror_run.specs.ItemLists.{item_line, IsItem}
use Rattle.mirror_run.proofs.lists.take_items.Given as goal

abbrev pub invariant-loop-line : goal.invariant-loop-line
invariant-loop-line l = record {
  lines : lines_of l.text ≡ map item_line l.items.items ++ lines_of l.rest;
  items : All IsItem l.items.items;
  few : length l.items.items + length l.rest ≤ length l.text;
}

abbrev pub decreases-loop-line : goal.decreases-loop-line
decreases-loop-line l = length l.rest
