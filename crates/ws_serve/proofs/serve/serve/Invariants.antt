use mathlib.Core.List.{IsPrefix}
use Rattle.ws_serve.proofs.serve.serve.Given as goal

abbrev pub invariant-loop-turn : goal.invariant-loop-turn
invariant-loop-turn g l = IsPrefix l.initial.reader l.reader
