-- A map may cross threads.
use denote.Param.Send.{IsSend, IsSync, sendable}
use Rattle.std.proofs.Crossing.{crosses}
use Rattle.id_map.specs.contracts.node.Node as Node
use Rattle.id_map.specs.contracts.map.IdMap as IdMap
use Rattle.id_map.proofs.node.Node.TheLaws.TheKnot.{both_send-Node, both_sync-Node}

node_send : IsSend Node.the_row
node_send = search (sendable, crosses, both_send-Node) depth 40

node_sync : IsSync Node.the_row
node_sync = search (sendable, crosses, both_sync-Node) depth 40

pub map_send : IsSend IdMap.the_row
map_send = search (sendable, crosses, node_send, node_sync) depth 40

pub map_sync : IsSync IdMap.the_row
map_sync = search (sendable, crosses, node_send, node_sync) depth 40
