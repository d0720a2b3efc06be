use Rattle.wire.specs.Line.{talk_of}
use Rattle.ws_link.proofs.Fetching.{stands_unused}
use Rattle.ws_link.proofs.source.WsSource+S+RandomKeys+R.start_at.Goals as goal

pub invariant_of-result : goal.invariant_of-result
invariant_of-result g c =
    rw c.new.ensures.wire (stands_unused c.new.result.log.items (talk_of c.in_ok-wire.wire) c.new.ensures.log c.in_ok-wire.ensures.client)
