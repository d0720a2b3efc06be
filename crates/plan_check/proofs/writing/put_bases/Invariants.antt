use Rattle.std.proofs.Common.{◌≡◌, ◌++◌, take, flat_map}
use Rattle.plan_check.specs.TextLines.{ended}
use Rattle.plan_check.specs.PlanText.{base_line}
use Rattle.plan_check.proofs.writing.put_bases.Given as goal

abbrev pub invariant-loop-base : goal.invariant-loop-base
invariant-loop-base l = l.text.items ≡ l.fn.text.items ++ flat_map (λ b. ended (base_line b)) (take l.base-index l.bases)
