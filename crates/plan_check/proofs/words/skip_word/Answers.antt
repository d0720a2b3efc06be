use Rattle.std.proofs.Common.{◌≡◌, sym, ap, ◌∙◌, take, length, take_at, refl}
use Rattle.std.proofs.lemmas.Bool.{false≢true}
use Rattle.plan_check.proofs.words.skip_word.Goals as goal

pub returns-else-are_same-clause-none : goal.returns-else-are_same-clause-none
returns-else-are_same-clause-none c = λ rest same.
    let word = c.args.word.now in
    let here : c.split_at.result.0.now ≡ word = c.split_at.ensures.front ∙ ap (take (length word)) same ∙ take_at word rest (length word) refl in
    false≢true (sym c.if-are_same.false ∙ c.are_same.ensures.1 here)
