use Rattle.std.proofs.Common.{◌≡◌, ◌++◌, length, ap, arith}
use Rattle.std.proofs.lemmas.Bool.Decides.{nat_tests}
use Rattle.hex.specs.Hex.{encode_lower}
use Rattle.plan_check.specs.PlanText.{relays_text}
use Rattle.plan_check.proofs.IdLemmas.{after_id}
use Rattle.plan_check.proofs.NumberLemmas.{some_text}
use Rattle.plan_check.proofs.records.cut_offer.Goals as goal

pub returns-then-is_empty-clause-none : goal.returns-then-is_empty-clause-none
returns-then-is_empty-clause-none c = λ o is same.
    let begun = c.in_ok-rest.ensures.found in
    let told = c.in_ok-id.ensures.found in
    let both : encode_lower c.in_ok-id.id.0 ++ c.in_ok-id.rest.now ≡ encode_lower o.0.0 ++ relays_text o.1 = cc in
    let rest = after_id c.in_ok-id.id o.0 _ _ c.in_ok-id.ensures.id is.id both in
    let none : length c.in_ok-id.rest.now ≡ 0 = grind (arith, nat_tests) in
    omega (arith, ap length rest, some_text o.1 is.some)
