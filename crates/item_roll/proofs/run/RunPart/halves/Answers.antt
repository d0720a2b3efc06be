use Rattle.std.proofs.Common.{ap, ◌∙◌, arith}
use Rattle.item_roll.specs.Chunks.{joined}
use Rattle.item_roll.proofs.Halves.{run_halves}
use Rattle.item_roll.proofs.run.RunPart.halves.Goals as goal

pub returns : goal.returns
returns g c = run_halves g.P.Part.items g.P.Part.most c.parts-parts.result.now 32 _ _ _ c.parts-parts.ensures.list (c.in_ok-left.ensures ∙ ap (joined g.P.Part.items) c.split_at.ensures.front) (c.in_ok-right.ensures ∙ ap (joined g.P.Part.items) c.split_at.ensures.back)
    (omega arith) (omega (arith, c.if-parts-lt-RUN_PARTS.false)) c.parts-parts.ensures.parts
