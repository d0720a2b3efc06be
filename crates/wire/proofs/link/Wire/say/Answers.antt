use Rattle.wire.specs.Line.{talk_of}
use Rattle.wire.proofs.Growing.{says_put, grows_said}
use Rattle.wire.proofs.link.Wire.say.Goals as goal

pub returns : goal.returns
returns g c =
    let old = c.args.self.now in
    let said = says_put g.S.Write.contents old c.put_text.new.self c.send.new.self c.args.text.now c.in_ok-put_text.ensures.whole c.send.ensures.hands c.in_ok-send.ensures.empty in
    record { said = said; grows = grows_said (talk_of old) (talk_of c.send.new.self) c.args.text.now said }
