use Rattle.wire.specs.Line.{talk_of}
use Rattle.wire.specs.Talk.{Waited}
use Rattle.wire.proofs.link.Wire.listen.Given as goal

abbrev pub invariant-loop-turn : goal.invariant-loop-turn
invariant-loop-turn g l = Waited (talk_of l.initial.self) (talk_of l.self)
