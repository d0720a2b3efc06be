use Rattle.std.proofs.Common.{◌≡◌, ◌<◌, ◌^◌, drop}
use Rattle.event_index.specs.Marks.{mixed}
use Rattle.event_index.proofs.mark.mixed.Given as goal

abbrev pub invariant-loop-byte : goal.invariant-loop-byte
invariant-loop-byte l = record { value : mixed l.mark (drop l.byte-index l.bytes) ≡ mixed l.start l.bytes; below : l.mark < 2 ^ 44 }
