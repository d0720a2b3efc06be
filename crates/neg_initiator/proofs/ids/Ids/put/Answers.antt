use Rattle.neg_initiator.proofs.ids.Ids.put.Goals as goal

pub returns-in_ok-put-in-Set : goal.returns-in_ok-put-in-Set
returns-in_ok-put-in-Set c = rw c.in-Set.is c.in_ok-put-in-Set.ensures
