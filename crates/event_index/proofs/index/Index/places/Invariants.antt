use Rattle.std.proofs.Common.{take}
use Rattle.event_index.specs.Postings.{joined}
use Rattle.event_index.proofs.Lists.{ReadsAll}
use Rattle.event_index.proofs.index.Index.places.Given as goal

abbrev pub invariant-loop-mark : goal.invariant-loop-mark
invariant-loop-mark l = ReadsAll l.self.count (take l.mark-index l.marks) (joined l.self.runs) l.places.items
