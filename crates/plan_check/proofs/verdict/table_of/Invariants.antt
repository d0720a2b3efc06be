use Rattle.std.proofs.Common.{◌≡◌, ℕ, false, length, take, get_or}
use Rattle.sharing.specs.Sharing.{is_among}
use Rattle.plan_check.proofs.verdict.table_of.Given as goal

abbrev pub invariant-loop-relay : goal.invariant-loop-relay
invariant-loop-relay l = record {
  len : length l.table ≡ 256;
  table : (r : ℕ) → get_or l.table r false ≡ is_among (take l.relay-index l.group) r;
}
