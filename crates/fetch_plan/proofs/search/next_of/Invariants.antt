use Rattle.std.proofs.Common.{◌≡◌, ◌<◌, ℕ, true, false, get_or}
use Rattle.sharing.specs.Sharing.{is_among}
use Rattle.fetch_plan.proofs.search.next_of.Given as goal

abbrev pub invariant-loop-relay : goal.invariant-loop-relay
invariant-loop-relay l = (r : ℕ) → r < l.relay → is_among l.reached r ≡ true → get_or l.done r false ≡ true
