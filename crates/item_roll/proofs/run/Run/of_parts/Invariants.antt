use Rattle.std.proofs.Common.{◌≡◌, take}
use Rattle.item_roll.specs.Chunks.{joined}
use Rattle.item_roll.proofs.run.Run.of_parts.Given as goal

abbrev pub invariant-loop-entry : goal.invariant-loop-entry
invariant-loop-entry g l = l.run ≡ joined g.P.Part.items (take l.entry-index l.entries)
