use Rattle.std.proofs.Common.{◌≡◌, ◌<◌, ◌≤◌, ℕ, get_or}
use Rattle.plan_check.proofs.verdict.greatest_of.Given as goal

abbrev pub invariant-loop-load : goal.invariant-loop-load
invariant-loop-load l = record {
  bound : (r : ℕ) → r < l.load-index → get_or l.loads r 0 ≤ l.most;
  some : l.load-index ≡ 0 → l.most ≡ 0;
  one : 0 < l.load-index → (r : ℕ) × (get_or l.loads r 0 ≡ l.most);
}
