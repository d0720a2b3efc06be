use Rattle.std.proofs.Common.{◌≡◌, ℕ, length, take, get_or}
use Rattle.sharing.specs.Bases.{base_in}
use Rattle.plan_check.proofs.verdict.bases_of.Given as goal

abbrev pub invariant-loop-base : goal.invariant-loop-base
invariant-loop-base l = record {
  len : length l.loads ≡ 256;
  loads : (r : ℕ) → get_or l.loads r 0 ≡ base_in (take l.base-index l.bases) r;
}
