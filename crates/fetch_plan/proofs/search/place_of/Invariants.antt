use Rattle.std.proofs.Common.{◌≡◌, ◌<◌, ℕ, false}
use Rattle.sharing.specs.Sharing.{is_among}
use Rattle.fetch_plan.specs.Takers.{at, offered}
use Rattle.fetch_plan.proofs.search.place_of.Given as goal

abbrev pub invariant-loop-place : goal.invariant-loop-place
invariant-loop-place l = (k : ℕ) → k < l.place → at l.takers k ≡ l.from → is_among (offered l.offers k) l.to ≡ false
