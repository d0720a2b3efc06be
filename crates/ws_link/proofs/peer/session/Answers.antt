use Rattle.ws_link.proofs.Names.{mirror_is_name}
use Rattle.ws_link.proofs.peer.session.Goals as goal

pub named-requires : goal.named-requires
named-requires c = mirror_is_name
