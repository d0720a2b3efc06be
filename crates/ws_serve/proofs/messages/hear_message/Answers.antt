use Rattle.ws_serve.proofs.Reading.{hears_later, hears_part}
use Rattle.ws_serve.proofs.messages.hear_message.Goals as goal

pub returns-in_default-clause-hears : goal.returns-in_default-clause-hears
returns-in_default-clause-hears g c =
    hears_later c.args.socket.now c.loop-frame.socket c.hear.new.self c.hear.new.reply.items c.in_ok-heard.heard c.loop-frame.invariant c.in_ok-heard.ensures.hears

pub loop-frame-preserved : goal.loop-frame-preserved
loop-frame-preserved g c =
    hears_part c.args.socket.now c.loop-frame.socket c.hear.new.self c.hear.new.reply.items c.loop-frame.invariant (rw c.in-Part.is at c.in_ok-heard.ensures.hears)
