use Rattle.std.proofs.Common.{◌≡◌, None, sym, ◌∙◌}
use Rattle.ws_serve.proofs.Reading.{hears_apart}
use Rattle.ws_serve.proofs.socket.Socket.hear.Goals as goal
use Rattle.ws_serve.proofs.socket.Socket.hear.Goals.{in-Ok, in-Err}

pub returns-clause-hears : goal.returns-clause-hears
returns-clause-hears g c =
    let none : c.self.inside.kept ≡ None = sym c.take.ensures.value ∙ c.in_default.is in
    elim c.match-hear_apart.branch [
      | in-Ok w ↦
          rw (w.result-is, ← c.self.view_is, none, c.take.ensures.after)
          (hears_apart c.self.inside.outbox c.hear_apart.new.self c.hear_apart.new.reply.items w.in-Ok.heard (rw c.clear.ensures.items at w.in-Ok.ensures.hears))
      | in-Err w ↦ rw w.result-is tt
    ]
