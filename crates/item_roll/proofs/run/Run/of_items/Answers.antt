use Rattle.std.proofs.Common.{◌+◌, ◌++◌, List, ap, ◌∙◌, arith}
use Rattle.item_key.specs.declared.Item.{Item}
use Rattle.item_roll.proofs.Pushes.{front_more}
use Rattle.item_roll.proofs.run.Run.of_items.Goals as goal

pub parts-preserved : goal.parts-preserved
parts-preserved g c = record {
  run = c.in_ok-push.ensures.ok ∙ ap (λ (xs : List Item). c.parts.run ++ xs) (ap g.P.Part.items c.in_ok-new.ensures.ok ∙ c.in_ok-part.ensures)
      ∙ front_more c.args.items.now c.parts.run c.parts.at (c.parts.at + c.min.result) c.parts.invariant.run (omega arith);
  within = omega (arith, c.min.ensures, c.parts-test.true);
}
