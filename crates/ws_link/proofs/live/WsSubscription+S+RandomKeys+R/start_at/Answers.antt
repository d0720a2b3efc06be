use Rattle.wire.specs.Line.{talk_of}
use Rattle.ws_link.proofs.live.WsSubscription+S+RandomKeys+R.start_at.Goals as goal

pub returns : goal.returns
returns g c = (talk_of c.in_ok-wire.wire, c.in_ok-wire.ensures.client, c.in_ok-ask.ensures)
