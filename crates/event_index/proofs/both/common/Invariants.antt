use Rattle.std.proofs.Common.{take}
use Rattle.event_index.proofs.Sifting.{Sifted}
use Rattle.event_index.proofs.both.common.Given as goal

abbrev pub invariant-loop-place : goal.invariant-loop-place
invariant-loop-place l = Sifted l.fn.limit l.there.items (take l.place-index l.places) l.both.items
