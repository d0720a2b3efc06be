use Rattle.nostr_wire.proofs.Carried.{no_event}
use Rattle.nostr_wire.proofs.events.shared.Goals as goal

pub returns-in-Err : goal.returns-in-Err
returns-in-Err c d tells = (tt, no_event d c.in-Err.id (rw c.in-Err.is at tells))
