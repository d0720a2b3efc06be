use Rattle.std.proofs.Common.{refl}
use Rattle.wire.specs.Line.{talk_of}
use Rattle.wire.proofs.Growing.{waited_same, waited_chain, comes_later, grows_came}
use Rattle.wire.proofs.link.Wire.listen.Goals as goal

pub loop-turn-init : goal.loop-turn-init
loop-turn-init g c = waited_same (talk_of c.args.self.now) (talk_of c.args.self.now) refl

pub loop-turn-preserved : goal.loop-turn-preserved
loop-turn-preserved g c =
    waited_chain (talk_of c.args.self.now) (talk_of c.loop-turn.self) (talk_of c.step.new.self) c.loop-turn.invariant (rw c.in-None.is at c.in_ok-message.ensures.may_come)

pub returns-in-Some : goal.returns-in-Some
returns-in-Some g c =
    let came = comes_later (talk_of c.args.self.now) (talk_of c.loop-turn.self) (talk_of c.step.new.self) c.in-Some.message c.loop-turn.invariant (rw c.in-Some.is at c.in_ok-message.ensures.may_come) in
    record { comes = came; grows = grows_came (talk_of c.args.self.now) (talk_of c.step.new.self) c.in-Some.message came }
