use Rattle.std.proofs.Common.{◌≡◌, drop, not, ◌||◌}
use Rattle.plan_check.specs.Lines.{first_at, are_relays, is_empty}
use Rattle.plan_check.proofs.order.malformed_offer.Given as goal

abbrev pub invariant-loop-place : goal.invariant-loop-place
invariant-loop-place l = first_at (λ o. is_empty o.1.items || not (are_relays o.1.items)) 0 l.offers ≡ first_at (λ o. is_empty o.1.items || not (are_relays o.1.items)) l.place (drop l.place l.offers)
