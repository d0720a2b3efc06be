use Rattle.std.proofs.Common.{◌≡◌, ◌++◌, length, map, All}
use Rattle.plan_check.specs.TextLines.{lines_of, ended}
use Rattle.plan_check.specs.File.{IsBase}
use Rattle.plan_check.specs.PlanText.{base_line}
use Rattle.plan_check.proofs.reading.take_bases.Given as goal

abbrev pub invariant-loop-line : goal.invariant-loop-line
invariant-loop-line l = record {
  lines : lines_of l.text ≡ map (λ x. ended (base_line x)) l.bases.items ++ lines_of l.rest;
  bases : All IsBase l.bases.items;
}

abbrev pub decreases-loop-line : goal.decreases-loop-line
decreases-loop-line l = length l.rest
