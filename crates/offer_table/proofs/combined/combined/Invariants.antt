use Rattle.offer_table.proofs.SideBySide.{Joining, total}
use Rattle.offer_table.proofs.combined.combined.Given as goal

abbrev pub invariant-loop-next : goal.invariant-loop-next
invariant-loop-next l = Joining l.keep l.mine l.theirs l.all.items l.first l.second

abbrev pub decreases-loop-next : goal.decreases-loop-next
decreases-loop-next l = total l.first l.second
