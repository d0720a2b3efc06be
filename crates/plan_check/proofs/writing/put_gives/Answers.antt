use Rattle.std.proofs.Common.{arith, ap, ◌∙◌, ◌++◌, ℕ, List}
use Rattle.item_key.specs.Keys.{IsId}
use Rattle.plan_check.proofs.FormLemmas.{given}
use Rattle.plan_check.proofs.WriteLemmas.{written_more, all_more}
use Rattle.plan_check.proofs.writing.put_gives.Goals as goal

pub loop-give-preserved : goal.loop-give-preserved
loop-give-preserved c = record {
  written = written_more given c.args.gives.now c.loop-give.give-index _ _ _ _ (omega arith) c.loop-give.invariant.written (c.in_ok-extend_from_slice.ensures.items ∙ ap (λ (t : List ℕ). c.loop-give.text.items ++ t) c.set_give-end.ensures.text);
  ids = all_more (λ g. IsId g.0) c.args.gives.now c.loop-give.give-index _ (omega arith) c.loop-give.invariant.ids c.set_give-end.ensures.id;
}
