use Rattle.std.proofs.Common.{take, flat_map}
use Rattle.mirror_run.specs.Waiting.{Sends}
use Rattle.plan_check.specs.TextLines.{ended}
use Rattle.plan_check.specs.PlanText.{give_line}
use Rattle.plan_run.proofs.printing.put_gives.Given as goal

abbrev pub invariant-loop-place : goal.invariant-loop-place
invariant-loop-place g l =
    Sends (g.W.Write.contents l.initial.out) l.initial.wait.items (g.W.Write.contents l.out) l.wait.items
    (flat_map (λ g. ended (give_line g)) (take l.place l.plan.gives))
