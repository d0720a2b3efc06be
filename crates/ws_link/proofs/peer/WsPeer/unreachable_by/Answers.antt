use Rattle.ws_link.proofs.Speaking.{stands_nowhere}
use Rattle.ws_link.proofs.peer.WsPeer.unreachable_by.Goals as goal

pub invariant_of-result : goal.invariant_of-result
invariant_of-result g c =
    let link = c.new.result in
    let made = c.new.ensures in
    rw made.wire (stands_nowhere c.new-2.result.items link.log.items link.given link.taken c.new-2.ensures made.log made.given made.taken)
