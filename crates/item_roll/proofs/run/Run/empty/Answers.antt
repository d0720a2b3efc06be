use Rattle.item_roll.proofs.Pushes.{kept_none}
use Rattle.item_roll.proofs.run.Run.empty.Goals as goal

pub invariant_of-result : goal.invariant_of-result
invariant_of-result g c = kept_none g.P.Part.items g.P.Part.most _ _ c.in_ok-with_capacity.ensures.items c.zero.ensures
