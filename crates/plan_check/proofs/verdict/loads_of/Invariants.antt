use Rattle.std.proofs.Common.{◌≡◌, ◌+◌, ◌<◌, ◌≤◌, ℕ, length, take, get_or}
use Rattle.sharing.specs.declared.TheConstants.{RELAYS, MOST_BASE}
use Rattle.plan_check.specs.Verdict.{given_load}
use Rattle.plan_check.proofs.verdict.loads_of.Given as goal

abbrev pub invariant-loop-give : goal.invariant-loop-give
invariant-loop-give l = record {
  len : length l.loads ≡ 256;
  loads : (r : ℕ) → r < RELAYS → get_or l.loads r 0 ≡ given_load l.bases (take l.give-index l.gives) r;
  small : (r : ℕ) → r < RELAYS → get_or l.loads r 0 ≤ MOST_BASE + l.give-index;
}
