use Rattle.wire.specs.Line.{talk_of}
use Rattle.ws_link.proofs.Speaking.{stands_first}
use Rattle.ws_link.proofs.peer.WsPeer+S+RandomKeys+R.start_at.Goals as goal

pub invariant_of-result : goal.invariant_of-result
invariant_of-result g c =
    rw c.new.ensures.wire (stands_first c.and.result.items c.new.result.log.items (talk_of c.in_ok-wire.wire) c.in_ok-filter.filter (rw c.new-2.ensures at c.and.ensures) c.new.ensures.log c.in_ok-wire.ensures.client)
