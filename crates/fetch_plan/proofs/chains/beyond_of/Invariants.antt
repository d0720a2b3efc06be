use Rattle.std.proofs.Common.{◌≡◌, length}
use Rattle.sharing.specs.declared.TheConstants.{SLOTS}
use Rattle.fetch_plan.specs.Chains.{IsBeyond}
use Rattle.fetch_plan.proofs.chains.beyond_of.Given as goal

abbrev pub invariant-loop-place : goal.invariant-loop-place
invariant-loop-place l = record { beyond : IsBeyond l.offers l.takers l.place l.beyond.items; long : length l.beyond.items ≡ SLOTS }
