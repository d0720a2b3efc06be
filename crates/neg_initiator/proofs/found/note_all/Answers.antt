use Rattle.std.proofs.Common.{◌≤◌, length, [], arith}
use Rattle.std.proofs.lemmas.List.{take_all}
use Rattle.item_key.specs.declared.Id.{Id}
use Rattle.neg_initiator.proofs.Noting.{notes_none, notes_more}
use Rattle.neg_initiator.specs.Lookups.{looked_up, ids_in}
use Rattle.neg_initiator.proofs.found.note_all.Goals as goal

abbrev no_id : Id
no_id = record { 0 = [] }

pub loop-id-init : goal.loop-id-init
loop-id-init c = notes_none (looked_up c.args.others.now) (ids_in c.args.into.now)

pub loop-id-preserved : goal.loop-id-preserved
loop-id-preserved c =
    notes_more (looked_up c.args.others.now) c.args.seen.now c.loop-id.id-index no_id (ids_in c.args.into.now) (ids_in c.loop-id.into) (ids_in c.note.new.into) c.loop-id-test.true c.loop-id.invariant c.in_ok-note.ensures

pub returns : goal.returns
returns c =
    let le : length c.args.seen.now ≤ c.loop-id.id-index = omega arith in
    rw (take_all c.loop-id.id-index c.args.seen.now le) at c.loop-id.invariant
