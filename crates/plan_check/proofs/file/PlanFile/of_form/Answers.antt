use Rattle.std.proofs.Common.{sym, ◌∙◌}
use Rattle.plan_check.proofs.Files.{none_left, file_ok}
use Rattle.plan_check.proofs.file.PlanFile.of_form.Goals as goal

pub in_order-requires : goal.in_order-requires
in_order-requires c = file_ok _ c.requires (sym c.misplaced.ensures ∙ none_left c.misplaced.result c.in_default.not-Some)
