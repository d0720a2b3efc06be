use Rattle.std.proofs.Common.{[]}
use Rattle.ws_serve.specs.Steps.{Brings}
use Rattle.ws_serve.proofs.messages.hear_message.Given as goal

abbrev pub invariant-loop-frame : goal.invariant-loop-frame
invariant-loop-frame g l = Brings l.initial.socket l.socket []
