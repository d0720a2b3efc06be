use Rattle.std.proofs.Common.{◌≡◌, ◌++◌, take}
use Rattle.newest.proofs.run.share_entries.Given as goal

abbrev pub invariant-loop-entry : goal.invariant-loop-entry
invariant-loop-entry l = l.all.items ≡ l.initial.all.items ++ take l.entry-index l.entries
