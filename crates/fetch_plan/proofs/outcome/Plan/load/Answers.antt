use Rattle.std.proofs.Common.{ap, ◌∙◌}
use Rattle.fetch_plan.specs.Plan.{Planned, planned_load}
use Rattle.fetch_plan.proofs.Planned.{none_planned}
use Rattle.fetch_plan.proofs.outcome.Plan.load.Goals as goal

pub returns-else-relay-lt-RELAYS : goal.returns-else-relay-lt-RELAYS
returns-else-relay-lt-RELAYS c = none_planned _ c.args.relay c.self.invariant.0 c.if-relay-lt-RELAYS.false ∙ ap (λ (p : Planned). planned_load p c.args.relay) c.self.view_is
