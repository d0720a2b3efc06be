use Rattle.ws_link.proofs.Names.{fetch_is_name}
use Rattle.ws_link.proofs.source.subscription.Goals as goal

pub named-requires : goal.named-requires
named-requires c = fetch_is_name
