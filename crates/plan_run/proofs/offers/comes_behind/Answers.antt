use Rattle.std.proofs.Common.{sym, ◌∙◌}
use Rattle.plan_run.proofs.Fronts.{ids_push, first_id, less_of}
use Rattle.plan_run.proofs.offers.comes_behind.Goals as goal

pub returns-in-Some : goal.returns-in-Some
returns-in-Some c = λ yes. ids_push c.args.offers.now _ c.in-Some.last.now c.args.id.now c.requires c.in-Some.ensures.cases.0 (sym c.cmp.ensures ∙ less_of c.cmp.result (sym c.is_lt.ensures ∙ yes))

pub returns-in-None : goal.returns-in-None
returns-in-None c = λ yes. first_id c.args.offers.now c.args.id.now c.in-None.ensures.cases c.requires
