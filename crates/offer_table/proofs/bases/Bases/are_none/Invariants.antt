use Rattle.std.proofs.Common.{◌≡◌, ℕ, ◌<◌}
use Rattle.sharing.specs.Bases.{base_of}
use Rattle.offer_table.proofs.bases.Bases.are_none.Given as goal

abbrev pub invariant-loop-relay : goal.invariant-loop-relay
invariant-loop-relay l = (r : ℕ) → r < l.relay → base_of l.self r ≡ 0
