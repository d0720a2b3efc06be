use Rattle.std.proofs.Common.{◌≡◌, ◌<◌, ℕ, true, length}
use Rattle.sharing.specs.declared.TheConstants.{RELAYS}
use Rattle.sharing.specs.Sharing.{is_among}
use Rattle.fetch_plan.specs.Takers.{at, offered}
use Rattle.fetch_plan.proofs.takers.choose.Given as goal

abbrev pub invariant-loop-place : goal.invariant-loop-place
invariant-loop-place l = record {
  long : length l.takers.items ≡ l.place;
  offer : (k : ℕ) → k < l.place → is_among (offered l.offers k) (at l.takers.items k) ≡ true;
  small : (k : ℕ) → k < l.place → at l.takers.items k < RELAYS;
}
