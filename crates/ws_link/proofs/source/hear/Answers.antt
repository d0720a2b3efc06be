use Rattle.wire.specs.Line.{talk_of}
use Rattle.ws_link.proofs.Hearing.{may_tell, none_tells}
use Rattle.ws_link.proofs.source.hear.Goals as goal

pub returns-in-Some-clause-tells : goal.returns-in-Some-clause-tells
returns-in-Some-clause-tells g c =
    may_tell (talk_of c.args.wire.now) (talk_of c.heard.new.wire) c.in-Some.message c.part_in.result (rw c.in-Some.is at c.in_ok-message.ensures.hears) c.part_in.ensures

pub returns-in-None-clause-tells : goal.returns-in-None-clause-tells
returns-in-None-clause-tells g c =
    none_tells (talk_of c.args.wire.now) (talk_of c.heard.new.wire) (rw c.in-None.is at c.in_ok-message.ensures.hears)
