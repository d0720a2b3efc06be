use Rattle.item_key.proofs.KeyOrder.{one_place}
use Rattle.item_key.proofs.laws.one_place.Goals as goal

pub returns : goal.returns
returns c = one_place
