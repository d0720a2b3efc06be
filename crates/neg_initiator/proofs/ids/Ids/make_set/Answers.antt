use Rattle.neg_initiator.proofs.Keys.{id_total}
use Rattle.neg_initiator.proofs.Noting.{sorted_distinct}
use Rattle.neg_initiator.proofs.ids.Ids.make_set.Goals as goal

pub returns-in-Set-clause-once : goal.returns-in-Set-clause-once
returns-in-Set-clause-once c = sorted_distinct id_total c.in-Set.set.keys c.len.ensures.ordered

pub returns-clause-same : goal.returns-clause-same
returns-clause-same c = rw (c.in-Listed.is, ← c.deref.ensures.value) c.in_ok-set-in-Listed.ensures

pub returns-clause-once : goal.returns-clause-once
returns-clause-once c = sorted_distinct id_total c.in_ok-set-in-Listed.set.keys c.len-2.ensures.ordered
