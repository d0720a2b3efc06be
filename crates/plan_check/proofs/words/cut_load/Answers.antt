use Rattle.std.proofs.Common.{sym, ◌∙◌, arith}
use Rattle.plan_check.proofs.NumberLemmas.{same_number}
use Rattle.plan_check.proofs.words.cut_load.Goals as goal

pub returns-else-number-gt0-clause-none : goal.returns-else-number-gt0-clause-none
returns-else-number-gt0-clause-none c = λ n rest some small next same.
    let h = c.in_ok-number.ensures in
    let parts = same_number c.in_ok-number.number n c.in_ok-number.rest.now rest h.small (omega (arith, small)) h.rest next (sym h.found ∙ same) in
    omega (arith, parts.0, some, small, c.else-number-gt0.either)
