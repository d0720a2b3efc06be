use Rattle.std.proofs.Common.{refl}
use Rattle.ws_serve.specs.Traffic.{texts_of}
use Rattle.ws_serve.proofs.Reading.{puts_close}
use Rattle.ws_serve.proofs.socket.Socket.put_close.Goals as goal
use Rattle.ws_serve.proofs.socket.Socket.put_close.Goals.{in-Ok, in-Err}

pub returns-clause-closes : goal.returns-clause-closes
returns-clause-closes g c =
    elim c.match-put_close.branch [
      | in-Ok w ↦
          rw (w.result-is, ← c.self.view_is)
          (puts_close c.self.inside.outbox c.put_close.new.self (texts_of c.self.inside.kept) _ refl w.in-Ok.ensures.put c.put_close.ensures.rests)
      | in-Err w ↦ rw w.result-is tt
    ]
