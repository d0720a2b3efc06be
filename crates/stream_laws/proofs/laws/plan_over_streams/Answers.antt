use Rattle.stream_laws.proofs.Streams.{planned_over}
use Rattle.stream_laws.proofs.laws.plan_over_streams.Goals as goal

pub returns : goal.returns
returns g c = planned_over g.P.Peer.log g.P.Peer.faults g.P.Peer.becomes
