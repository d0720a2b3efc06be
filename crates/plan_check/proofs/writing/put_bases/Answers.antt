use Rattle.std.proofs.Common.{arith, ap, ◌∙◌, ◌++◌, ℕ, List}
use Rattle.plan_check.proofs.FormLemmas.{based}
use Rattle.plan_check.proofs.WriteLemmas.{written_more}
use Rattle.plan_check.proofs.writing.put_bases.Goals as goal

pub loop-base-preserved : goal.loop-base-preserved
loop-base-preserved c =
    written_more based c.args.bases.now c.loop-base.base-index (0, 0) _ _ _ (omega arith) c.loop-base.invariant (c.in_ok-extend_from_slice.ensures.items ∙ ap (λ (t : List ℕ). c.loop-base.text.items ++ t) c.set_base-end.ensures.text)
