use Rattle.fetch_plan.specs.Takers.{AreOffered, KeepPace}
use Rattle.fetch_plan.specs.Chains.{squares}
use Rattle.fetch_plan.proofs.chains.settle.Given as goal

abbrev pub invariant-chains : goal.invariant-chains
invariant-chains l = record {
  offered : AreOffered l.offers l.takers;
  loads : KeepPace l.initial.takers l.initial.loads l.takers l.loads;
}

abbrev pub decreases-chains : goal.decreases-chains
decreases-chains l = squares l.loads
