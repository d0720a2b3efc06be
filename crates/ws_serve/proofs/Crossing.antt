-- A connection that is served may cross threads.
use denote.RattleType.{RattleType}
use denote.Param.Send.{IsSend, sendable, view_send}
use denote.Param.SendFields.{declared_send}
use Rattle.core.proofs.option.Option.TheSendSync as option
use Rattle.event_store.proofs.blank.Front.TheSendSync as front
use Rattle.event_store.specs.contracts.blank.Front as Front
use Rattle.event_store.specs.declared.name.Naming.{Ghosts}
use Rattle.relay_core.proofs.Crossing.{conn_send}
use Rattle.ws_serve.specs.contracts.talk.Talk as Talk
use Rattle.ws_serve.specs.contracts.talk.Talk.TheInside as InTalk
use Rattle.ws_serve.proofs.counts.Counts.TheSendSync as counts
use Rattle.ws_serve.proofs.socket.Socket.TheSendSync as socket

pub talk_send : (S J : RattleType) (g : Ghosts J.Denot) → IsSend S → IsSend (Talk.the_row S J g)
talk_send S J g s =
    view_send (InTalk.the_row S J g) _ _ _ _ (declared_send (InTalk.the_type S J g)
    (socket.the_send S s, (conn_send, (counts.the_send, (search sendable, (option.the_send (Front.the_row J g) (front.the_send J g), tt))))))
