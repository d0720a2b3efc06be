use Rattle.std.proofs.Common.{map}
use Rattle.nostr_wire.specs.Forms.{relay_form}
use Rattle.ws_serve.specs.Outbox.{Writes}
use Rattle.ws_serve.proofs.outbox.write_all.Given as goal

abbrev pub invariant-loop-message : goal.invariant-loop-message
invariant-loop-message g l = Writes l.initial.wire (map relay_form l.initial.later.items) l.wire (map relay_form l.later.items)
