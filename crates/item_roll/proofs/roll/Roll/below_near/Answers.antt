use Rattle.std.proofs.Common.{◌+◌, length, ap, sym, ◌∙◌, arith}
use Rattle.std.proofs.lemmas.Bool.{ltb-true, ltb-false}
use Rattle.item_roll.proofs.Near.{ascending_piece, count_near}
use Rattle.item_roll.proofs.roll.Roll.below_near.Goals as goal

pub items_below-requires : goal.items_below-requires
items_below-requires c = rw (c.piece-items.ensures.items, c.self.view_is) (ascending_piece c.args.self.now c.args.from (c.args.from + length c.piece-items.result.now) c.len-len.ensures.roll.ascending)

pub returns-then-not-is_before : goal.returns-then-not-is_before
returns-then-not-is_before c =
    ap (λ n. c.args.from + n) c.items_below.ensures.value
    ∙ count_near c.args.self.now c.piece-items.result.now c.args.from c.args.edge.now _ _ c.len-len.ensures.roll.ascending (rw c.self.view_is at c.piece-items.ensures.items) (omega (arith, c.piece-items.ensures.within, c.min.ensures, c.len-len.ensures.value)) c.piece-items.ensures.some (ltb-true _ _ (sym c.if-is_before.ensures)) (ltb-false _ _ (sym c.if-not-is_before.ensures))
