use Rattle.plan_check.specs.File.{pairs_of}
use Rattle.plan_check.proofs.Judged.{AllFit}
use Rattle.plan_check.proofs.verdict.are_paired.Given as goal

abbrev pub invariant-loop-place : goal.invariant-loop-place
invariant-loop-place l = AllFit (pairs_of l.offers) l.gives l.place
