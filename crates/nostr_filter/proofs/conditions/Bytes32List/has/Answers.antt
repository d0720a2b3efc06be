use Rattle.std.proofs.Common.{◌∙◌}
use Rattle.nostr_filter.proofs.Membership.{made}
use Rattle.nostr_filter.proofs.conditions.Bytes32List.has.Goals as goal

pub returns-in-Some : goal.returns-in-Some
returns-in-Some c = rw (← c.self.view_is) (c.contains.ensures ∙ made c.self.inside.values.items c.in-Some.set c.args.value.now (rw c.in-Some.is at c.self.invariant))
