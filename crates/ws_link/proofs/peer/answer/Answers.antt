use Rattle.std.proofs.Common.{refl}
use Rattle.wire.specs.Line.{talk_of}
use Rattle.wire.proofs.Growing.{listened_same, listened_chain, grows_listened, grows_chain}
use Rattle.ws_link.proofs.Speaking.{answers_later}
use Rattle.ws_link.proofs.peer.answer.Goals as goal

pub loop-read-init : goal.loop-read-init
loop-read-init g c = listened_same (talk_of c.args.wire.now) (talk_of c.args.wire.now) refl

pub loop-read-preserved : goal.loop-read-preserved
loop-read-preserved g c =
    listened_chain (talk_of c.args.wire.now) (talk_of c.loop-read.wire) (talk_of c.answer_in.new.wire) c.loop-read.invariant (rw c.in-None.is at c.in_ok-answer.ensures.answers)

pub returns-in-Some : goal.returns-in-Some
returns-in-Some g c =
    let answered = answers_later (talk_of c.args.wire.now) (talk_of c.loop-read.wire) (talk_of c.answer_in.new.wire) c.in-Some.answer c.loop-read.invariant (rw c.in-Some.is at c.in_ok-answer.ensures.answers) in
    record { answers = answered; grows = grows_chain (talk_of c.args.wire.now) (talk_of c.loop-read.wire) (talk_of c.answer_in.new.wire) (grows_listened (talk_of c.args.wire.now) (talk_of c.loop-read.wire) c.loop-read.invariant) c.answer_in.ensures.grows }
