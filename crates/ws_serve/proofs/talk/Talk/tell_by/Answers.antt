use Rattle.ws_serve.proofs.Going.{stands_after}
use Rattle.ws_serve.proofs.talk.Talk.tell_by.Goals as goal

pub invariant_of-self-2 : goal.invariant_of-self-2
invariant_of-self-2 g c =
    record {
      few = c.self.invariant.few;
      stands = rw c.front.ensures (stands_after c.tell-told.result c.ends-self-inside.result c.tell-told.new.conn c.tell-told.new.socket c.tell-told.new.reader c.ends-self-inside.ensures c.tell-told.ensures.served);
    }
