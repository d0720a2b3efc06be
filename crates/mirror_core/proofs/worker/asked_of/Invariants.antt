use Rattle.std.specs.Prelude.{All}
use Rattle.std.specs.Arc.{arc_value}
use Rattle.event_source.specs.Fetching.{IsAsked}
use Rattle.mirror_core.proofs.worker.asked_of.Given as goal

abbrev pub invariant-loop-id : goal.invariant-loop-id
invariant-loop-id l = All (λ event. IsAsked l.ids l.given (arc_value event)) l.asked.items
