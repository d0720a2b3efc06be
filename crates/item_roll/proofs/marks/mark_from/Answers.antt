use Rattle.std.proofs.Common.{◌≡◌, ◌+◌, ◌*◌, ◌-◌, ℕ, take, ap, ◌∙◌, arith}
use Rattle.item_roll.specs.Sums.{sum_at}
use Rattle.item_roll.proofs.Marked.{marked_more}
use Rattle.item_roll.proofs.Pieces.{sum_with}
use Rattle.item_roll.proofs.marks.mark_from.Goals as goal

pub loop-mark-init : goal.loop-mark-init
loop-mark-init c =
    let n : 16 * c.args.first ≡ (c.args.first + 1) * 16 - 16 = omega arith in
    (c.requires.marked, c.requires.marked c.args.first _ (omega arith) c.requires.within c.requires.reached ∙ ap (λ (k : ℕ). sum_at (take k c.args.items.now)) n)

pub loop-mark-preserved : goal.loop-mark-preserved
loop-mark-preserved c =
    let upto : c.loop-mark.mark * 16 ≡ 16 * c.loop-mark.mark = omega arith in
    let next : c.loop-mark.mark * 16 ≡ (c.loop-mark.mark + 1) * 16 - 16 = omega arith in
    let sum = c.add-sum.ensures ∙ sum_with c.args.items.now (c.loop-mark.mark * 16 - 16) (c.loop-mark.mark * 16) _ _ (omega arith) c.loop-mark.invariant.1 c.sum_of_items.ensures in (
      marked_more c.args.items.now c.loop-mark.marks c.loop-mark.mark c.add-sum.result (omega (arith, c.loop-mark-test.true, c.min-end.ensures, c.loop-mark.auto.marks)) c.loop-mark.invariant.0
          (sum ∙ ap (λ (k : ℕ). sum_at (take k c.args.items.now)) upto),
      sum ∙ ap (λ (k : ℕ). sum_at (take k c.args.items.now)) next,
    )

pub returns-clause-marked : goal.returns-clause-marked
returns-clause-marked c k d within _ reached =
    c.loop-mark.invariant.0 k d (omega (arith, within, reached, c.loop-mark-test.false, c.min-end.ensures, c.loop-mark.auto.marks)) within reached
