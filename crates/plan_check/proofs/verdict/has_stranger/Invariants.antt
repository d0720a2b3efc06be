use Rattle.std.proofs.Common.{◌≡◌, not, drop}
use Rattle.std.specs.Prelude.{is_some}
use Rattle.std.specs.List.{list_any}
use Rattle.sharing.specs.Offers.{beside}
use Rattle.plan_check.specs.File.{pairs_of}
use Rattle.plan_check.proofs.verdict.has_stranger.Given as goal

abbrev pub invariant-loop-place : goal.invariant-loop-place
invariant-loop-place l =
    list_any (λ g. not (is_some (beside (pairs_of l.offers) g.0))) l.gives ≡ list_any (λ g. not (is_some (beside (pairs_of l.offers) g.0))) (drop l.place l.gives)
