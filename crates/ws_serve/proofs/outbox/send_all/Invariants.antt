use Rattle.std.proofs.Common.{map}
use Rattle.nostr_wire.specs.Forms.{relay_form}
use Rattle.ws_serve.specs.Outbox.{held, Passes}
use Rattle.ws_serve.proofs.outbox.send_all.Given as goal

abbrev pub invariant-loop-part : goal.invariant-loop-part
invariant-loop-part g l = Passes (held l.initial.wire (map relay_form l.initial.later.items)) (held l.wire (map relay_form l.later.items))
