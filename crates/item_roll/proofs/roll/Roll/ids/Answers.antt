use Rattle.std.proofs.Common.{◌+◌, ◌++◌, List, length, ap, ◌∙◌, arith}
use Rattle.std.specs.List.{slice_range}
use Rattle.item_key.specs.declared.Id.{Id}
use Rattle.item_key.specs.declared.Item.{Item}
use Rattle.item_roll.specs.Parts.{ids_of}
use Rattle.item_roll.proofs.Pieces.{ids_join}
use Rattle.item_roll.proofs.roll.Roll.ids.Goals as goal

pub pieces-preserved : goal.pieces-preserved
pieces-preserved c =
    let next = c.pieces.from + length c.piece-items.result.now in
    record {
      ids = c.in_ok-push_ids.ensures ∙ ap (λ (is : List Id). is ++ ids_of c.piece-items.result.now) c.pieces.invariant.ids
          ∙ ap (λ (xs : List Item). ids_of (slice_range c.args.self.now c.args.lo c.pieces.from) ++ ids_of xs) (rw c.self.view_is at c.piece-items.ensures.items)
          ∙ ids_join c.args.self.now c.args.lo c.pieces.from (c.pieces.from + length c.piece-items.result.now) c.pieces.invariant.from (omega arith);
      from = omega (arith, c.pieces.invariant.from);
      upto = c.piece-items.ensures.within;
    }
