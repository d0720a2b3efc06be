use Rattle.std.proofs.Common.{◌≡◌, ◌++◌, decimal, drop, sym, ap, ◌∙◌}
use Rattle.plan_check.proofs.NumberLemmas.{one_word}
use Rattle.plan_check.proofs.words.cut_number.Goals as goal

pub returns-in_err-number-clause-none : goal.returns-in_err-number-clause-none
returns-in_err-number-clause-none c = rw c.from_residual-in_err-number.ensures (λ n rest small next same.
    let both : c.cut_word.result.0.now ++ c.cut_word.result.1.now ≡ decimal n ++ rest = sym c.cut_word.ensures.parts ∙ ap (drop 1) (sym c.in_ok-skip_space.ensures.found ∙ same) in
    let parts = one_word n c.cut_word.result.0.now c.cut_word.result.1.now rest small c.cut_word.ensures.word c.cut_word.ensures.rest next both in
    c.in_err-number.ensures.none n small parts.0)
