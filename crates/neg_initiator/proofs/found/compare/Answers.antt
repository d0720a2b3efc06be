use Rattle.neg_initiator.proofs.Noting.{notes_same}
use Rattle.neg_initiator.specs.Lookups.{looked_up, ids_in}
use Rattle.neg_initiator.proofs.found.compare.Goals as goal

pub returns-clause-need : goal.returns-clause-need
returns-clause-need c =
    notes_same (looked_up c.in_ok-own_set.own_set) c.args.own.now c.args.listed.now (ids_in c.args.found.now.need) (ids_in c.note_all.new.into) c.in_ok-own_set.ensures c.in_ok-note_all.ensures

pub returns-clause-have : goal.returns-clause-have
returns-clause-have c =
    notes_same (looked_up c.in_ok-listed_set.listed_set) c.args.listed.now c.args.own.now (ids_in c.args.found.now.have) (ids_in c.note_all-2.new.into) c.in_ok-listed_set.ensures c.in_ok-note_all-2.ensures
