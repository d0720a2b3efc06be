use Rattle.std.proofs.Common.{ℕ, ◌+◌, ◌<◌, ◌≤◌, List, length}
use Rattle.std.specs.Prelude.{IfSome}
use Rattle.item_key.specs.declared.Id.{Id}
use Rattle.sharing.specs.Offers.{id_cmp}
use Rattle.plan_check.specs.Lines.{rises}
use Rattle.plan_check.specs.TextLines.{lines_of}
use Rattle.plan_check.specs.PlanText.{offer_line, IsOffer}
use Rattle.plan_check.proofs.Runs.{Passed}
use Rattle.plan_check.proofs.scanning.scan_offers.Given as goal

abbrev pub invariant-loop-line : goal.invariant-loop-line
invariant-loop-line l = record {
  passed : Passed (Id × List ℕ) Id id_cmp (λ o. o.0) (λ o. rises o.1) offer_line IsOffer (lines_of l.text) (lines_of l.rest) l.count l.out l.before;
  room : l.count + length l.rest ≤ length l.text;
  within : IfSome l.out (λ k. k < l.count);
}

abbrev pub decreases-loop-line : goal.decreases-loop-line
decreases-loop-line l = length l.rest
