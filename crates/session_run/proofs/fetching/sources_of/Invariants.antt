use Rattle.std.proofs.Common.{◌<◌, ◌^◌, ◌-◌, All}
use Rattle.session_run.proofs.fetching.sources_of.Given as goal

abbrev pub invariant-loop-place : goal.invariant-loop-place
invariant-loop-place g l = All (λ s. s.source.faults < 2 ^ 64 - 1) l.sources.items
