use Rattle.std.proofs.Common.{[], ◌∷◌, ◌++◌, take, sym, ap, ◌∙◌, arith}
use Rattle.std.proofs.lemmas.List.{take_more}
use Rattle.std.proofs.lemmas.Option.{get_or_from_slice_get}
use Rattle.claim_board.proofs.board.cells_of.Goals as goal

pub loop-i-preserved : goal.loop-i-preserved
loop-i-preserved c =
    let gives = c.args.plan.now.gives in
    let i = c.loop-i.i in
    let more = take_more gives i c.cell.result (omega (arith, c.loop-i-test.true, c.len-i-end.ensures.value)) ∙ ap (λ x. take i gives ++ x ∷ []) (get_or_from_slice_get gives i c.cell.result c.cell.result c.cell.ensures) in
    record { upto = c.in_ok-push.ensures.items ∙ (ap (λ t. t ++ c.cell.result ∷ []) c.loop-i.invariant.upto ∙ sym more) }
