use Rattle.ws_serve.proofs.Going.{stands_later, known_later}
use Rattle.ws_serve.proofs.talk.Talk.recall.Goals as goal

pub invariant_of-self : goal.invariant_of-self
invariant_of-self g c =
    record {
      few = c.self.invariant.few;
      stands = rw c.front.ensures (stands_later c.take_in.new.reader c.self.invariant.stands (known_later c.self.inside.seen c.take_in.new.reader c.take_in.ensures.seen));
    }
