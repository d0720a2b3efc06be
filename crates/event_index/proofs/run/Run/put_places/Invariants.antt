use Rattle.event_index.proofs.Lists.{Reading}
use Rattle.event_index.proofs.run.Run.put_places.Given as goal

abbrev pub invariant-loop-at : goal.invariant-loop-at
invariant-loop-at l = Reading l.limit l.first l.at l.self l.initial.places.items l.places.items
