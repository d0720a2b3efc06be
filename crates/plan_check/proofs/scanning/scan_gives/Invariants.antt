use Rattle.std.proofs.Common.{ℕ, ◌+◌, ◌<◌, ◌≤◌, true, length}
use Rattle.std.specs.Prelude.{IfSome}
use Rattle.item_key.specs.declared.Id.{Id}
use Rattle.sharing.specs.Offers.{id_cmp}
use Rattle.plan_check.specs.TextLines.{lines_of}
use Rattle.plan_check.specs.PlanText.{give_line, IsGive}
use Rattle.plan_check.proofs.Runs.{Passed}
use Rattle.plan_check.proofs.scanning.scan_gives.Given as goal

abbrev pub invariant-loop-line : goal.invariant-loop-line
invariant-loop-line l = record {
  passed : Passed (Id × ℕ) Id id_cmp (λ g. g.0) (λ _. true) give_line IsGive (lines_of l.text) (lines_of l.rest) l.count l.out l.before;
  room : l.count + length l.rest ≤ length l.text;
  within : IfSome l.out (λ k. k < l.count);
}

abbrev pub decreases-loop-line : goal.decreases-loop-line
decreases-loop-line l = length l.rest
