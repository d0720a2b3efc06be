-- An index may cross threads.
use denote.Param.Send.{IsSend, IsSync, sendable}
use Rattle.std.proofs.Crossing.{crosses}
use Rattle.event_index.specs.contracts.index.Index as Index
use Rattle.event_index.proofs.run.Run.TheSendSync as run

pub index_send : IsSend Index.the_row
index_send = search (sendable, crosses, run.the_send, run.the_sync) depth 40

pub index_sync : IsSync Index.the_row
index_sync = search (sendable, crosses, run.the_send, run.the_sync) depth 40
