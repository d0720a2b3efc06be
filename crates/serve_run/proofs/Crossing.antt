-- Who is served may cross threads.
use denote.RattleType.{RattleType}
use denote.Param.Send.{IsSend, sendable}
use denote.Param.SendFields.{declared_send, variants_send}
use Rattle.core.proofs.option.Option.TheSendSync as option
use Rattle.std.proofs.Crossing.{crosses}
use Rattle.event_store.specs.declared.name.Naming.{Ghosts}
use Rattle.ws_serve.proofs.Crossing.{talk_send}
use Rattle.ws_serve.proofs.greeting.Greeting.TheSendSync as greeting
use Rattle.client_hall.specs.contracts.client.Line as Line
use Rattle.serve_run.specs.contracts.guest.Stage as Stage
use Rattle.serve_run.specs.contracts.guest.Guest as Guest
use Rattle.client_hall.proofs.client.Client.TheSendSync as client
use Rattle.client_hall.proofs.client.Line.TheSendSync as line

module _ (J : RattleType) (g : Ghosts J.Denot) where
  stage_send : IsSend (Stage.the_row J g)
  stage_send = variants_send (Stage.enum J g) ((greeting.the_send Line.the_row line.the_send, tt), ((talk_send Line.the_row J g line.the_send, tt), tt))

  pub guest_send : IsSend (Guest.the_row J g)
  guest_send = declared_send (Guest.the_type J g) (search (sendable, crosses, client.the_send, client.the_sync), (option.the_send (Stage.the_row J g) stage_send, (search sendable, tt)))
