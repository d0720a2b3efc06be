use Rattle.std.proofs.Common.{◌≡◌, ℕ, Some, None, sym, ◌∙◌}
use Rattle.plan_check.proofs.Files.{none_left}
use Rattle.plan_check.proofs.InOrder.{file_form_ok, in_order}
use Rattle.plan_check.proofs.file.PlanFile.of.Goals as goal

-- no place was found
no_place : (n : ℕ) → Some n ≡ None → ⊥
no_place n e = cc

pub returns-in-Some-clause-taken : goal.returns-in-Some-clause-taken
returns-in-Some-clause-taken c ok = absurd (no_place c.in-Some.place (sym c.in-Some.is ∙ c.malformed.ensures ∙ file_form_ok _ ok))

pub of_form-requires : goal.of_form-requires
of_form-requires c = sym c.malformed.ensures ∙ none_left c.malformed.result c.in_default.not-Some

pub returns-clause-fault : goal.returns-clause-fault
returns-clause-fault c =
    let none = sym c.malformed.ensures ∙ none_left c.malformed.result c.in_default.not-Some in
    rw none c.of_form.ensures.fault

pub returns-clause-taken : goal.returns-clause-taken
returns-clause-taken c ok = rw (in_order _ ok) at c.of_form.ensures.fault
