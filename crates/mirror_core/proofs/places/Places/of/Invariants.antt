use Rattle.event_source.specs.Fetching.{ids_of}
use Rattle.mirror_core.proofs.Placing.{Right, Whole}
use Rattle.mirror_core.proofs.places.Places.of.Given as goal

abbrev pub invariant-loop-k : goal.invariant-loop-k
invariant-loop-k l = record {
  right : Right (ids_of l.given) l.by_id;
  whole : Whole (ids_of l.given) l.k l.by_id;
}
