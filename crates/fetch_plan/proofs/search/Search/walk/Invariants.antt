use Rattle.std.proofs.Common.{ℕ, List, length}
use Rattle.fetch_plan.specs.Takers.{at}
use Rattle.fetch_plan.specs.Chains.{IsBeyond, AreReached}
use Rattle.fetch_plan.proofs.Walks.{Walking}
use Rattle.fetch_plan.proofs.search.Search.walk.Given as goal

abbrev pub invariant-back : goal.invariant-back
invariant-back l = (beyond : List (List ℕ)) × (loads : List ℕ) × (most : ℕ) × IsBeyond l.offers l.initial.takers (length l.initial.takers) beyond × AreReached beyond loads most l.self × Walking l.offers l.initial.takers l.self l.end l.takers l.at

abbrev pub decreases-back : goal.decreases-back
decreases-back l = at l.self.turns l.at
