use Rattle.std.proofs.Common.{ap, rules}
use Rattle.relay_core.specs.Kept.{Connection}
use Rattle.ws_serve.proofs.Going.{stands_first}
use Rattle.ws_serve.proofs.talk.Talk.new.Goals as goal

pub invariant_of-result : goal.invariant_of-result
invariant_of-result g c =
    record {
      few = search rules;
      stands = stands_first _ c.in_ok-socket.socket (ap (λ (x : Connection). x.kept) c.new-2.ensures) c.in_ok-socket.ensures;
    }
