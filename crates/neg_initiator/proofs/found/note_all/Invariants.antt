use Rattle.std.proofs.Common.{take}
use Rattle.neg_initiator.specs.Notes.{Notes}
use Rattle.neg_initiator.specs.Lookups.{looked_up, ids_in}
use Rattle.neg_initiator.proofs.found.note_all.Given as goal

abbrev pub invariant-loop-id : goal.invariant-loop-id
invariant-loop-id l = Notes (looked_up l.others) (take l.id-index l.seen) (ids_in l.initial.into) (ids_in l.into)
