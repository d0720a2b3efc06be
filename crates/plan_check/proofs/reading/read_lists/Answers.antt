use Rattle.std.proofs.Common.{◌≡◌, ◌∷◌, ◌++◌, true, None, map, ap, sym, ◌∙◌}
use Rattle.std.specs.Ordering.{nat_cmp}
use Rattle.plan_check.specs.File.{File, pairs_of}
use Rattle.plan_check.specs.Lines.{first_out}
use Rattle.plan_check.specs.TextLines.{ended}
use Rattle.plan_check.specs.PlanText.{header_line}
use Rattle.plan_check.proofs.FormLemmas.{based, offered, given, plan_lines-is}
use Rattle.plan_check.proofs.Taken.{nothing, lists_ok}
use Rattle.plan_check.proofs.reading.read_lists.Goals as goal

pub returns-clause-lines : goal.returns-clause-lines
returns-clause-lines c =
    let bases = c.in-Some.bases.items in
    let head = rw c.in-Some.is at c.in_ok-bases.ensures.lines in
    let last = rw c.in-Some-2.is at c.in_ok-group.ensures.lines in
    head
    ∙ ap (λ t. ended (header_line bases) ∷ (map based bases ++ t)) (c.in_ok-offers.ensures.lines ∙ ap (λ t. map offered (pairs_of c.in_ok-offers.offers.items) ++ t) (c.in_ok-gives.ensures.lines ∙ ap (λ t. map given c.in_ok-gives.gives.items ++ t) last))
    ∙ sym (plan_lines-is _)

pub returns-clause-file : goal.returns-clause-file
returns-clause-file c =
    let bases = c.in-Some.bases.items in
    let file : File = record { bases = bases; offers = pairs_of c.in_ok-offers.offers.items; gives = c.in_ok-gives.gives.items; group = c.in-Some-2.group.items } in
    let none : first_out nat_cmp (λ b. b.0) (λ _. true) None 0 bases ≡ None = ap (first_out nat_cmp (λ b. b.0) (λ _. true) None 0) (sym c.deref.ensures.value) ∙ sym c.misplaced_base.ensures ∙ nothing c.misplaced_base.result (sym c.is_some.ensures ∙ c.if-is_some.false) in
    let ordered = rw c.in-Some.is at c.in_ok-bases.ensures.bases in
    let group = rw c.in-Some-2.is at c.in_ok-group.ensures.group in
    lists_ok file none ordered c.in_ok-offers.ensures.offers c.in_ok-gives.ensures.form c.in_ok-gives.ensures.ascend group
