-- A connection may cross threads.
use denote.Param.Send.{IsSend, sendable, view_send}
use denote.Param.SendFields.{declared_send}
use Rattle.core.proofs.option.Option.TheSendSync as option
use Rattle.std.proofs.Crossing.{crosses, send}
use Rattle.nostr_wire.proofs.lists.Sub.TheSendSync as sub
use Rattle.event_store.proofs.Crossing.{snapshot_send}
use Rattle.relay_core.specs.contracts.sessions.Session as Session
use Rattle.relay_core.specs.contracts.talk.Talk as Talk
use Rattle.relay_core.specs.contracts.talk.Talk.TheInside as InTalk
use Rattle.relay_core.specs.contracts.conn.Conn as Conn
use Rattle.relay_core.specs.contracts.conn.Conn.TheInside as InConn
use Rattle.relay_core.proofs.limits.RelayLimits.TheSendSync as limits
use Rattle.relay_core.proofs.subs.Subscription.TheSendSync as subscription

session_send : IsSend Session.the_row
session_send = declared_send Session.the_type (sub.the_send, (snapshot_send, tt))

talk_send : IsSend Talk.the_row
talk_send = view_send InTalk.the_row _ _ _ _ (declared_send InTalk.the_type (search (sendable, crosses, subscription.the_send), (search (sendable, crosses, session_send), tt)))

pub conn_send : IsSend Conn.the_row
conn_send = view_send InConn.the_row _ _ _ _ (declared_send InConn.the_type (send, (limits.the_send, (option.the_send Talk.the_row talk_send, tt))))
