use Rattle.std.proofs.Common.{◌≡◌, ◌+◌, map}
use Rattle.sharing.specs.Offers.{Ascend}
use Rattle.offer_table.proofs.Runs.{id_of}
use Rattle.offer_table.proofs.SideBySide.{total}
use Rattle.offer_table.proofs.combined.count_both.Given as goal

abbrev pub invariant-loop-next : goal.invariant-loop-next
invariant-loop-next l = record {
  total_is : l.count + total l.first l.second ≡ total l.mine l.theirs;
  first : Ascend (map id_of l.first);
  second : Ascend (map id_of l.second);
}

abbrev pub decreases-loop-next : goal.decreases-loop-next
decreases-loop-next l = total l.first l.second
