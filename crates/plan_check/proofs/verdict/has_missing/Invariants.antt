use Rattle.std.proofs.Common.{◌≡◌, not, drop}
use Rattle.std.specs.Prelude.{is_some}
use Rattle.std.specs.List.{list_any}
use Rattle.sharing.specs.Offers.{beside}
use Rattle.plan_check.proofs.verdict.has_missing.Given as goal

abbrev pub invariant-loop-place : goal.invariant-loop-place
invariant-loop-place l = list_any (λ o. not (is_some (beside l.gives o.0))) l.offers ≡ list_any (λ o. not (is_some (beside l.gives o.0))) (drop l.place l.offers)
