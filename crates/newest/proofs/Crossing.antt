-- The runs may cross threads.
use denote.Param.Send.{IsSend, IsSync, sendable}
use Rattle.std.proofs.Crossing.{crosses}
use Rattle.newest.specs.contracts.order.Newest as Newest
use Rattle.newest.proofs.run.Run.TheSendSync as run

pub order_send : IsSend Newest.the_row
order_send = search (sendable, crosses, run.the_send, run.the_sync) depth 40

pub order_sync : IsSync Newest.the_row
order_sync = search (sendable, crosses, run.the_send, run.the_sync) depth 40
