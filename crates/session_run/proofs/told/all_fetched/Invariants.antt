use Rattle.std.proofs.Common.{All, take}
use Rattle.ws_link.specs.Fetched.{WasFetched}
use Rattle.session_run.proofs.told.all_fetched.Given as goal

abbrev pub invariant-loop-told : goal.invariant-loop-told
invariant-loop-told g l = All (λ told. WasFetched told.source) (take l.told-index l.sources)
