use Rattle.std.proofs.Common.{ℕ, List, IfOk, subst}
use Rattle.item_key.specs.declared.Id.{Id}
use Rattle.sharing.specs.Bases.{base_of}
use Rattle.sharing.specs.Sharing.{NoneSmaller}
use Rattle.fetch_plan.proofs.plan.Goals as goal

pub returns-clause-least : goal.returns-clause-least
returns-clause-least c =
    subst (λ (os : List (Id × List ℕ)). IfOk c.plan_by.result (λ plan. NoneSmaller (base_of c.args.bases.now) os plan.least_max)) c.list.ensures.value c.plan_by.ensures.least
