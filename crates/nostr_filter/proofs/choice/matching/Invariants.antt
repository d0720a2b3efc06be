use Rattle.std.proofs.Common.{◌≡◌, ◌++◌, drop}
use Rattle.nostr_filter.specs.Choice.{matching_from}
use Rattle.nostr_filter.proofs.choice.matching.Given as goal

abbrev pub invariant-loop-place : goal.invariant-loop-place
invariant-loop-place l = l.ranks.items ++ matching_from l.place l.filter (drop l.place l.events) ≡ matching_from 0 l.filter l.events
