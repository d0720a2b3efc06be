use Rattle.std.specs.Prelude.{Contains}
use Rattle.std.proofs.lemmas.Result.{on_ok_weaker}
use Rattle.neg_initiator.proofs.Noting.{not_there, notes_put}
use Rattle.neg_initiator.specs.Lookups.{looked_up, ids_in}
use Rattle.neg_initiator.proofs.found.note.Goals as goal

pub returns : goal.returns
returns c =
    on_ok_weaker c.put.result
    (λ h. notes_put (looked_up c.args.others.now) c.args.id.now (ids_in c.args.into.now) (ids_in c.put.new.self) h
    (not_there c.has.result (Contains (looked_up c.args.others.now) c.args.id.now) c.has.ensures c.if-has.false))
    c.put.ensures
