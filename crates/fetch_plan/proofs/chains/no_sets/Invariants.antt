use Rattle.std.proofs.Common.{◌≡◌, ◌≤◌, ◌-◌, false, ℕ, length}
use Rattle.sharing.specs.declared.TheConstants.{SLOTS}
use Rattle.sharing.specs.Sharing.{is_among}
use Rattle.fetch_plan.specs.Chains.{set_at}
use Rattle.fetch_plan.proofs.chains.no_sets.Given as goal

abbrev pub invariant-sets : goal.invariant-sets
invariant-sets l = record { none : (r s : ℕ) → is_among (set_at l.sets.items r) s ≡ false; long : length l.sets.items ≤ SLOTS }

abbrev pub decreases-sets : goal.decreases-sets
decreases-sets l = SLOTS - length l.sets.items
