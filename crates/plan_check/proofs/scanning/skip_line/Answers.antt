use Rattle.std.proofs.Common.{◌≡◌, true, sym, ◌∙◌}
use Rattle.std.proofs.lemmas.Slice.Eq.{bytes_eq-Decides}
use Rattle.plan_check.proofs.KindLemmas.{other_word}
use Rattle.plan_check.proofs.scanning.skip_line.Goals as goal

pub returns-else-eq-clause-none : goal.returns-else-eq-clause-none
returns-else-eq-clause-none c = other_word c.args.line.now c.in_ok-first.first.now _ _ c.in_ok-first.ensures.lines (λ same.
    let passes : c.eq.result ≡ true = c.eq.ensures ∙ (bytes_eq-Decides _ _).1 same in
    cc (sym passes ∙ c.if-eq.false))
