use Rattle.std.proofs.Common.{map}
use Rattle.nostr_wire.specs.Forms.{relay_form}
use Rattle.ws_serve.proofs.Holding.{hears_held_if}
use Rattle.ws_serve.proofs.outbox.Outbox.hear_apart.Goals as goal

pub returns-clause-hears : goal.returns-clause-hears
returns-clause-hears g c =
    rw (← c.self.view_is)
    (hears_held_if c.hear_apart.result c.self.inside.wire c.hear_apart.new.self (map relay_form c.self.inside.later.items) c.args.reply.now.items c.hear_apart.new.reply.items c.hear_apart.ensures.hears)
