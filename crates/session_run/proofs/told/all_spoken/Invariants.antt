use Rattle.std.proofs.Common.{All, take}
use Rattle.ws_link.specs.Spoken.{WasSpoken}
use Rattle.session_run.proofs.told.all_spoken.Given as goal

abbrev pub invariant-loop-told : goal.invariant-loop-told
invariant-loop-told g l = All (λ told. WasSpoken told.peer) (take l.told-index l.peers)
