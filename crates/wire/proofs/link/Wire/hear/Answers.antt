use Rattle.wire.proofs.Growing.{hears_put}
use Rattle.wire.proofs.link.Wire.hear.Goals as goal

pub returns-clause-hears : goal.returns-clause-hears
returns-clause-hears g c =
    hears_put c.args.self.now c.hear_apart.new.self c.put_frames.new.self c.hear_apart.new.reply.items c.in_ok-heard.heard
    (rw c.new-reply.ensures.items at c.in_ok-heard.ensures.hears)
    (rw c.as_slice.ensures.value at c.in_ok-put_frames.ensures.whole)
