use Rattle.item_key.proofs.KeyOrder.{place_order}
use Rattle.item_key.proofs.laws.order_of_keys.Goals as goal

pub returns : goal.returns
returns c = place_order
