use Rattle.std.proofs.Common.{◌≡◌, ◌*◌, ℕ, take, ap, ◌∙◌, arith}
use Rattle.item_roll.specs.Sums.{sum_at}
use Rattle.item_roll.proofs.Pieces.{sum_with}
use Rattle.item_roll.proofs.marks.sum_upto.Goals as goal

pub returns : goal.returns
returns c =
    let n : 16 * c.min-mark.result ≡ c.min-mark.result * 16 = omega arith in
    let known = c.requires.marked c.min-mark.result _ (omega (arith, c.min-mark.ensures, c.requires.some)) (omega (arith, c.min-mark.ensures, c.requires.some)) (omega (arith, c.min-mark.ensures, c.requires.within)) in
    c.add.ensures ∙ sum_with c.args.items.now (c.min-mark.result * 16) c.args.place _ _ (omega (arith, c.min-mark.ensures)) (known ∙ ap (λ (k : ℕ). sum_at (take k c.args.items.now)) n) c.sum_of_items.ensures
