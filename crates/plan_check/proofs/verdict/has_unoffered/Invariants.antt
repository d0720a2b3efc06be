use Rattle.std.proofs.Common.{◌≡◌, ◌&&◌, not, drop}
use Rattle.std.specs.Prelude.{is_some}
use Rattle.std.specs.List.{list_any}
use Rattle.sharing.specs.Sharing.{is_among}
use Rattle.sharing.specs.Offers.{beside, relays_of}
use Rattle.plan_check.specs.File.{pairs_of}
use Rattle.plan_check.proofs.verdict.has_unoffered.Given as goal

abbrev pub invariant-loop-place : goal.invariant-loop-place
invariant-loop-place l =
    list_any (λ g. is_some (beside (pairs_of l.offers) g.0) && not (is_among (relays_of (pairs_of l.offers) g.0) g.1)) l.gives
    ≡ list_any (λ g. is_some (beside (pairs_of l.offers) g.0) && not (is_among (relays_of (pairs_of l.offers) g.0) g.1)) (drop l.place l.gives)
