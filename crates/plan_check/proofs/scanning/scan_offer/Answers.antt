use Rattle.std.proofs.Common.{◌≡◌, ◌++◌, length, codes, ap, ◌∙◌, arith}
use Rattle.hex.specs.Hex.{encode_lower}
use Rattle.plan_check.specs.PlanText.{relays_text}
use Rattle.plan_check.proofs.IdLemmas.{after_id}
use Rattle.plan_check.proofs.NumberLemmas.{some_relays}
use Rattle.plan_check.proofs.scanning.scan_offer.Goals as goal

pub returns-in_err-rises-clause-none : goal.returns-in_err-rises-clause-none
returns-in_err-rises-clause-none c = rw c.from_residual-in_err-rises.ensures (λ o is same.
    let told = c.in_ok-id.ensures.found in
    let both : encode_lower c.in_ok-id.id.0 ++ c.in_ok-id.rest.now ≡ encode_lower o.0.0 ++ relays_text o.1 = cc in
    let rest = after_id c.in_ok-id.id o.0 _ _ c.in_ok-id.ensures.id is.id both in
    c.in_err-rises.ensures.none (o.1, is.relays, rest))

pub returns-clause-found : goal.returns-clause-found
returns-clause-found c =
    let f = c.in_ok-rises.ensures.found in
    let o = c.in_ok-id.ensures in
    (f.0, record { id = o.id; some = some_relays f.0 (omega (arith, o.some, ap length f.2)); relays = f.1 }, o.found ∙ ap (λ t. codes "offer " ++ encode_lower c.in_ok-id.id.0 ++ t) f.2, f.3)
