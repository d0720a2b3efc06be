use Rattle.wire.specs.Line.{talk_of}
use Rattle.ws_link.proofs.Speaking.{may_answer}
use Rattle.ws_link.proofs.peer.answer_in.Goals as goal

pub returns-in-Some-clause-answers : goal.returns-in-Some-clause-answers
returns-in-Some-clause-answers g c =
    may_answer c.told.result (talk_of c.args.wire.now) (talk_of c.heard.new.wire) c.in-Some.message c.part_in.result (rw c.in-Some.is at c.in_ok-message.ensures.hears) c.part_in.ensures c.told.ensures
