use Rattle.std.proofs.Common.{◌≡◌, ◌++◌, length, map, All, None}
use Rattle.sharing.specs.Offers.{Ascend}
use Rattle.plan_check.specs.TextLines.{lines_of, ended}
use Rattle.plan_check.specs.PlanText.{give_line, IsGive}
use Rattle.plan_check.proofs.Runs.{last_from}
use Rattle.plan_check.proofs.reading.take_gives.Given as goal

abbrev pub invariant-loop-line : goal.invariant-loop-line
invariant-loop-line l = record {
  lines : lines_of l.text ≡ map (λ x. ended (give_line x)) l.gives.items ++ lines_of l.rest;
  form : All IsGive l.gives.items;
  ascend : Ascend (map (λ g. g.0) l.gives.items);
  last : l.before ≡ last_from (λ g. g.0) None l.gives.items;
}

abbrev pub decreases-loop-line : goal.decreases-loop-line
decreases-loop-line l = length l.rest
