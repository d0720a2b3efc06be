use Rattle.std.proofs.Common.{◌≡◌, ◌*◌, ◌≤◌, ◌^◌, take, get_or}
use Rattle.std.specs.Prelude.{sum_by}
use Rattle.plan_check.proofs.verdict.sum_of.Given as goal

abbrev pub invariant-loop-relay : goal.invariant-loop-relay
invariant-loop-relay l = record {
  sum : l.sum ≡ sum_by (λ r. get_or l.bases r 0) (take l.relay-index l.group);
  small : l.sum ≤ l.relay-index * 2 ^ 64;
}
