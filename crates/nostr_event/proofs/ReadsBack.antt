-- What is written of an event reads as that event.
use Rattle.std.proofs.Common.{refl}
use Rattle.serde_json.proofs.OnLiterals.{serde_json_on_literals}
use Rattle.nostr_event.specs.EventView.{EventView, IsEvent}
use Rattle.nostr_event.specs.EventJson.{HasFields, Reads, object_of}

object_of-HasFields : (e : EventView) → IsEvent e → HasFields (object_of e) e
unfolding serde_json_on_literals
object_of-HasFields e h = record { id = refl; pubkey = refl; created_at = refl; kind = refl; tags = refl; content = refl; sig = refl; in_range = h.in_range }

pub object_of-Reads : (e : EventView) → IsEvent e → Reads (object_of e) e
object_of-Reads e h = (object_of-HasFields e h, h.right)
