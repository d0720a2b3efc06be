use Rattle.std.proofs.Common.{◌++◌, ◌∷◌, map, ap, ◌∙◌, subst}
use Rattle.sharing.specs.Bases.{base_of, base_in}
use Rattle.plan_check.specs.File.{AreBasesInOrder}
use Rattle.plan_check.specs.TextLines.{ended}
use Rattle.plan_check.specs.PlanText.{header_line}
use Rattle.plan_check.proofs.FormLemmas.{based}
use Rattle.plan_check.proofs.WriteLemmas.{text_split, split_room}
use Rattle.plan_run.proofs.Fronts.{front_is}
use Rattle.plan_run.proofs.offers.read_front.Goals as goal

pub overflow_sub-end : goal.overflow_sub-end
overflow_sub-end c =
    let head = rw c.in-Some.is at c.in_ok-pairs.ensures.lines in
    let whole = head ∙ ap (λ t. ended (header_line c.in-Some.pairs.items) ∷ (map based c.in-Some.pairs.items ++ t)) c.in_ok-offers.ensures.lines in
    split_room _ _ _ (text_split c.args.text.now c.in_ok-offers.rest.now c.in-Some.pairs.items c.in_ok-offers.offers.items whole)

pub returns-then-is_tail-clause-front : goal.returns-then-is_tail-clause-front
returns-then-is_tail-clause-front c =
    let head = rw c.in-Some.is at c.in_ok-pairs.ensures.lines in
    let whole = head ∙ ap (λ t. ended (header_line c.in-Some.pairs.items) ∷ (map based c.in-Some.pairs.items ++ t)) c.in_ok-offers.ensures.lines in
    front_is c.args.text.now c.in_ok-offers.rest.now (base_of c.in-Some-bases_of.bases) c.in-Some.pairs.items c.in_ok-offers.offers.items whole
    (subst AreBasesInOrder c.deref.ensures.value c.in-Some-bases_of.ensures.ordered)
    (λ r. c.in-Some-bases_of.ensures.bases r ∙ ap (λ bs. base_in bs r) c.deref.ensures.value)
    c.in_ok-offers.ensures.form c.in_ok-offers.ensures.offers (c.is_tail.ensures.0 c.if-is_tail.true)
