use Rattle.std.proofs.Common.{◌≡◌, ◌<◌, ◌++◌, [], length, sym, ap, ◌∙◌, arith}
use Rattle.std.proofs.lemmas.Bool.Decides.{nat_tests}
use Rattle.std.proofs.lemmas.List.{append-nil}
use Rattle.hex.specs.Hex.{encode_lower}
use Rattle.plan_check.specs.PlanText.{number_text}
use Rattle.plan_check.proofs.IdLemmas.{after_id}
use Rattle.plan_check.proofs.NumberLemmas.{same_number, relay_small}
use Rattle.plan_check.proofs.records.parse_give.Goals as goal

pub returns-in_err-relay-clause-none : goal.returns-in_err-relay-clause-none
returns-in_err-relay-clause-none c = rw c.from_residual-in_err-relay.ensures (λ g is same.
    let begun = c.in_ok-rest.ensures.found in
    let told = c.in_ok-id.ensures.found in
    let both : encode_lower c.in_ok-id.id.0 ++ c.in_ok-id.rest.now ≡ encode_lower g.0.0 ++ number_text g.1 = cc in
    let rest = after_id c.in_ok-id.id g.0 _ _ c.in_ok-id.ensures.id is.id both in
    c.in_err-relay.ensures.none g.1 [] is.relay tt (rest ∙ sym (append-nil (number_text g.1))))

pub returns-else-is_empty-clause-none : goal.returns-else-is_empty-clause-none
returns-else-is_empty-clause-none c = λ g is same.
    let begun = c.in_ok-rest.ensures.found in
    let told = c.in_ok-id.ensures.found in
    let both : encode_lower c.in_ok-id.id.0 ++ c.in_ok-id.rest.now ≡ encode_lower g.0.0 ++ number_text g.1 = cc in
    let rest = after_id c.in_ok-id.id g.0 _ _ c.in_ok-id.ensures.id is.id both in
    let more = c.in_ok-relay.ensures in
    let all : number_text c.in_ok-relay.relay ++ c.in_ok-relay.rest.now ≡ number_text g.1 ++ [] = sym more.found ∙ rest ∙ sym (append-nil (number_text g.1)) in
    let parts = same_number c.in_ok-relay.relay g.1 c.in_ok-relay.rest.now [] (relay_small _ more.small) (relay_small _ is.relay) more.rest tt all in
    let some : 0 < length c.in_ok-relay.rest.now = grind (arith, nat_tests) in
    omega (arith, ap length parts.1)
