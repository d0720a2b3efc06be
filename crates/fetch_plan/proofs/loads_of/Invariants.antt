use Rattle.std.proofs.Common.{◌≡◌, ◌<◌, ℕ, length}
use Rattle.sharing.specs.declared.TheConstants.{RELAYS}
use Rattle.sharing.specs.Bases.{base_of, AreBases}
use Rattle.fetch_plan.specs.Takers.{at}
use Rattle.fetch_plan.proofs.loads_of.Given as goal

abbrev pub invariant-loop-relay : goal.invariant-loop-relay
invariant-loop-relay l = record {
  told : (r : ℕ) → r < l.relay → at l.loads r ≡ base_of l.bases r;
  bases : 0 < l.relay → AreBases l.bases;
  wide : length l.loads ≡ RELAYS;
}
