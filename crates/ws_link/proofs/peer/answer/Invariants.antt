use Rattle.wire.specs.Line.{talk_of}
use Rattle.wire.specs.Talk.{Listened}
use Rattle.ws_link.proofs.peer.answer.Given as goal

abbrev pub invariant-loop-read : goal.invariant-loop-read
invariant-loop-read g l = Listened (talk_of l.initial.wire) (talk_of l.wire)
