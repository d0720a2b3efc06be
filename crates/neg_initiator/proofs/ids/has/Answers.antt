use Rattle.std.proofs.lemmas.Map.Views.{btree_set_contains_iff}
use Rattle.neg_initiator.proofs.Keys.{id_total, id_exact}
use Rattle.neg_initiator.proofs.ids.has.Goals as goal

pub returns : goal.returns
returns c = rw c.contains.ensures (btree_set_contains_iff id_total id_exact c.args.set.now c.args.id.now)
