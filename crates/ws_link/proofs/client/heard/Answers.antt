use Rattle.wire.specs.Line.{talk_of}
use Rattle.ws_link.proofs.Hearing.{may_hear}
use Rattle.ws_link.proofs.client.heard.Goals as goal

pub returns-in-Ok-Text-clause-hears : goal.returns-in-Ok-Text-clause-hears
returns-in-Ok-Text-clause-hears g c =
    may_hear c.meant.result (talk_of c.args.wire.now) (talk_of c.listen.new.self) c.in-Ok-Text.text c.as_str.result.now c.as_str.ensures.value (rw c.in-Ok-Text.field-0-is at c.in-Ok-Text.ensures.comes) c.meant.ensures.means
