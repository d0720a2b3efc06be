use Rattle.std.proofs.Common.{◌≡◌, drop, None}
use Rattle.plan_check.specs.Lines.{first_out, rises}
use Rattle.sharing.specs.Offers.{id_cmp}
use Rattle.plan_check.proofs.order.misplaced_offer.Given as goal

abbrev pub invariant-loop-place : goal.invariant-loop-place
invariant-loop-place l = first_out id_cmp (λ o. o.0) (λ o. rises o.1.items) None 0 l.offers ≡ first_out id_cmp (λ o. o.0) (λ o. rises o.1.items) l.before l.place (drop l.place l.offers)
