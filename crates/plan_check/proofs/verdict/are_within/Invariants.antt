use Rattle.std.proofs.Common.{◌≡◌, false, get_or, drop}
use Rattle.std.specs.List.{list_all}
use Rattle.plan_check.proofs.verdict.are_within.Given as goal

abbrev pub invariant-loop-relay : goal.invariant-loop-relay
invariant-loop-relay l = list_all (λ r. get_or l.table r false) l.relays ≡ list_all (λ r. get_or l.table r false) (drop l.relay-index l.relays)
