use Rattle.std.proofs.Common.{◌≡◌, drop}
use Rattle.relay_core.specs.Kept.{session_of}
use Rattle.relay_core.proofs.sessions.find.Given as goal

abbrev pub invariant-loop-session : goal.invariant-loop-session
invariant-loop-session l = session_of l.name (drop l.session-index l.sessions) ≡ session_of l.name l.sessions
