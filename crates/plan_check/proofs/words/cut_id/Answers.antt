use Rattle.std.proofs.Common.{◌∙◌, arith}
use Rattle.plan_check.proofs.IdLemmas.{id_fits, id_front}
use Rattle.plan_check.proofs.words.cut_id.Goals as goal

pub returns-then-text-lt64-clause-none : goal.returns-then-text-lt64-clause-none
returns-then-text-lt64-clause-none c = λ id rest is same. omega (arith, id_fits c.args.text.now id rest is same)

pub returns-in_err-id-clause-none : goal.returns-in_err-id-clause-none
returns-in_err-id-clause-none c = rw c.from_residual.ensures (λ id rest is same.
    c.in_err-id.ensures.none id is (c.split_at.ensures.front ∙ id_front c.args.text.now id rest is same))
