use Rattle.std.proofs.Common.{refl}
use Rattle.ws_serve.proofs.socket.Socket.always_takes.Goals as goal

pub returns : goal.returns
returns g c = rw (← c.self.view_is) (c.self.inside.outbox.output, refl)
