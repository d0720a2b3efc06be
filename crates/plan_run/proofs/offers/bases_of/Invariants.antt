use Rattle.std.proofs.Common.{◌≡◌, ◌<◌, ◌≤◌, ℕ, map, take, All}
use Rattle.std.specs.Ordering.{nat_cmp}
use Rattle.std.specs.List.Sorted.{IsStrictlySortedBy}
use Rattle.sharing.specs.declared.TheConstants.{RELAYS}
use Rattle.sharing.specs.Bases.{base_of, base_in}
use Rattle.plan_run.proofs.offers.bases_of.Given as goal

abbrev pub invariant-loop-base : goal.invariant-loop-base
invariant-loop-base l = record {
  bases : (r : ℕ) → base_of l.bases r ≡ base_in (take l.base-index l.pairs) r;
  ascend : IsStrictlySortedBy nat_cmp (map (λ b. b.0) (take l.base-index l.pairs));
  below : All (λ b. b.0 < l.next) (take l.base-index l.pairs);
  small : l.next ≤ RELAYS;
}
