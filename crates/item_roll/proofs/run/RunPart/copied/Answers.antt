use Rattle.std.proofs.Common.{length, ap, arith}
use Rattle.item_roll.proofs.run.RunPart.copied.Goals as goal

pub of_parts-requires-clause-few : goal.of_parts-requires-clause-few
of_parts-requires-clause-few g c = omega (arith, ap length c.parts.ensures.list, c.parts.ensures.few)
