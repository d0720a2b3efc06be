use Rattle.wire.specs.Line.{talk_of}
use Rattle.ws_link.proofs.Subscribing.{may_tell}
use Rattle.ws_link.proofs.live.hear.Goals as goal

pub returns-in-Some : goal.returns-in-Some
returns-in-Some g c =
    may_tell (talk_of c.args.wire.now) (talk_of c.listen.new.self) c.in-Ok-Text.text c.in-Some.message c.part_in.result (rw c.in-Ok-Text.field-0-is at c.in-Ok-Text.ensures.comes) (rw c.as_str.ensures.value at rw c.in-Some.is at c.in_ok-message-in-Ok-Text.ensures) c.part_in.ensures
