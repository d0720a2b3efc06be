use Rattle.ws_serve.proofs.Going.{stands_after}
use Rattle.ws_serve.proofs.talk.Talk.turn_by.Goals as goal

pub invariant_of-self-2 : goal.invariant_of-self-2
invariant_of-self-2 g c =
    record {
      few = c.run-turned.ensures.few;
      stands = rw (c.front.ensures, c.rest.ensures) (stands_after c.run-turned.result c.ends-self-inside.result c.run-turned.new.conn c.run-turned.new.socket c.run-turned.new.reader c.ends-self-inside.ensures c.run-turned.ensures.served);
    }
