use Rattle.std.proofs.Common.{ℕ, ◌+◌, ◌<◌, ◌≤◌, true, length}
use Rattle.std.specs.Prelude.{IfSome}
use Rattle.std.specs.Ordering.{nat_cmp}
use Rattle.plan_check.specs.File.{IsBase}
use Rattle.plan_check.specs.TextLines.{lines_of}
use Rattle.plan_check.specs.PlanText.{base_line}
use Rattle.plan_check.proofs.Runs.{Passed}
use Rattle.plan_check.proofs.scanning.scan_bases.Given as goal

abbrev pub invariant-loop-line : goal.invariant-loop-line
invariant-loop-line l = record {
  passed : Passed (ℕ × ℕ) ℕ nat_cmp (λ b. b.0) (λ _. true) base_line IsBase (lines_of l.text) (lines_of l.rest) l.count l.out l.before;
  room : l.count + length l.rest ≤ length l.text;
  within : IfSome l.out (λ k. k < l.count);
}

abbrev pub decreases-loop-line : goal.decreases-loop-line
decreases-loop-line l = length l.rest
