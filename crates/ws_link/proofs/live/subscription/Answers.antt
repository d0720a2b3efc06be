use Rattle.ws_link.proofs.Names.{live_is_name}
use Rattle.ws_link.proofs.live.subscription.Goals as goal

pub named-requires : goal.named-requires
named-requires c = live_is_name
