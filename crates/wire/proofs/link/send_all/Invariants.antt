use Rattle.std.proofs.Common.{◌≤◌, length, take}
use Rattle.std.specs.Io.KnownBytes.{Appends}
use Rattle.wire.proofs.link.send_all.Given as goal

abbrev pub invariant-loop-turn : goal.invariant-loop-turn
invariant-loop-turn g l = record { within : l.sent ≤ length l.bytes; wrote : Appends (g.S.Write.contents l.initial.stream) (g.S.Write.contents l.stream) (take l.sent l.bytes) }
