use Rattle.std.proofs.Common.{◌∙◌, sym, ℕ}
use Rattle.std.proofs.lemmas.Bool.{false≢true}
use Rattle.std.proofs.lemmas.Result.{err_from_is_err_and}
use Rattle.sharing.specs.Bases.{base_in}
use Rattle.sharing.proofs.Counting.{none_smaller}
use Rattle.plan_check.specs.Verdict.{GroupShows}
use Rattle.plan_check.proofs.Judged.{shared_by, exact_from, judge_fault, judge_ok, judge_small, lent_most, lent_shows, lent_shows_back}
use Rattle.plan_check.proofs.verdict.check.Goals as goal

pub returns-in_err-check_gives-clause-judges : goal.returns-in_err-check_gives-clause-judges
returns-in_err-check_gives-clause-judges c =
    let p = err_from_is_err_and c.from_residual.result c.from_residual.ensures.1 in
    rw (p.1, p.2) (judge_fault c.args.file.now c.in_err-check_gives.field-0.0 c.in_err-check_gives.ensures.err)

pub returns-in_err-check_gives-clause-exact : goal.returns-in_err-check_gives-clause-exact
returns-in_err-check_gives-clause-exact c = exact_from c.args.file.now c.offers-offers.ensures.file _ (returns-in_err-check_gives-clause-judges c)

pub returns-then-does_show-clause-judges : goal.returns-then-does_show-clause-judges
returns-then-does_show-clause-judges c =
    let file = c.args.file.now in
    let most : ℕ = c.greatest_of-most.result in
    let none = c.in_ok-check_gives.ensures.ok in
    let greatest = lent_most file _ _ _ most c.bases-bases.ensures.value c.gives-gives.ensures.value c.loads_of.ensures.loads c.greatest_of-most.ensures in
    judge_ok file most none (shared_by file c.offers-offers.ensures.file most none greatest)
    (lent_shows file _ _ _ most c.bases-bases.ensures.value c.offers-offers.ensures.value c.group.ensures.value (c.does_show.ensures.0 c.if-does_show.true))

pub returns-then-does_show-clause-exact : goal.returns-then-does_show-clause-exact
returns-then-does_show-clause-exact c = exact_from c.args.file.now c.offers-offers.ensures.file _ (returns-then-does_show-clause-judges c)

pub returns-then-does_show-clause-least : goal.returns-then-does_show-clause-least
returns-then-does_show-clause-least c =
    let file = c.args.file.now in
    let most : ℕ = c.greatest_of-most.result in
    let shows : GroupShows file most = lent_shows file _ _ _ most c.bases-bases.ensures.value c.offers-offers.ensures.value c.group.ensures.value (c.does_show.ensures.0 c.if-does_show.true) in
    none_smaller (base_in file.bases) file.offers file.group most shows

pub returns-else-does_show-clause-judges : goal.returns-else-does_show-clause-judges
returns-else-does_show-clause-judges c =
    let file = c.args.file.now in
    let most : ℕ = c.greatest_of-most.result in
    let none = c.in_ok-check_gives.ensures.ok in
    let greatest = lent_most file _ _ _ most c.bases-bases.ensures.value c.gives-gives.ensures.value c.loads_of.ensures.loads c.greatest_of-most.ensures in
    judge_small file most none (shared_by file c.offers-offers.ensures.file most none greatest)
    (λ shows. false≢true (sym c.if-does_show.false ∙ c.does_show.ensures.1 (lent_shows_back file _ _ _ most c.bases-bases.ensures.value c.offers-offers.ensures.value c.group.ensures.value shows)))

pub returns-else-does_show-clause-exact : goal.returns-else-does_show-clause-exact
returns-else-does_show-clause-exact c = exact_from c.args.file.now c.offers-offers.ensures.file _ (returns-else-does_show-clause-judges c)
