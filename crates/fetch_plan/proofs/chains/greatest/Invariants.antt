use Rattle.std.proofs.Common.{◌≡◌, ◌<◌, ◌≤◌, ℕ, get_or}
use Rattle.sharing.specs.declared.TheConstants.{RELAYS}
use Rattle.fetch_plan.proofs.chains.greatest.Given as goal

abbrev pub invariant-loop-load : goal.invariant-loop-load
invariant-loop-load l = record {
  bound : (r : ℕ) → r < l.load-index → get_or l.loads r 0 ≤ l.most;
  one : (r : ℕ) × (r < RELAYS) × (get_or l.loads r 0 ≡ l.most);
}
