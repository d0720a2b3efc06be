use Rattle.std.proofs.Common.{ap, ◌∙◌}
use Rattle.offer_table.specs.Relays.{members}
use Rattle.offer_table.proofs.Words.{one_member, low_power, high_power, relays_members}
use Rattle.offer_table.proofs.relays.RelaySet.one.Goals as goal

pub returns-then-relay-lt-HALF-clause-value : goal.returns-then-relay-lt-HALF-clause-value
returns-then-relay-lt-HALF-clause-value c = ap members (low_power c.args.relay c.if-relay-lt-HALF.true) ∙ one_member c.args.relay c.requires

pub returns-then-relay-lt-HALF-clause-relays : goal.returns-then-relay-lt-HALF-clause-relays
returns-then-relay-lt-HALF-clause-relays c = relays_members _

pub returns-else-relay-lt-HALF-clause-value : goal.returns-else-relay-lt-HALF-clause-value
returns-else-relay-lt-HALF-clause-value c = ap members (high_power c.args.relay c.if-relay-lt-HALF.false c.requires) ∙ one_member c.args.relay c.requires

pub returns-else-relay-lt-HALF-clause-relays : goal.returns-else-relay-lt-HALF-clause-relays
returns-else-relay-lt-HALF-clause-relays c = relays_members _
