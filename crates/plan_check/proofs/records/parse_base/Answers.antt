use Rattle.std.proofs.Common.{◌≡◌, ◌<◌, ◌++◌, [], length, drop, refl, sym, ap, ◌∙◌, arith}
use Rattle.std.proofs.lemmas.Bool.Decides.{nat_tests}
use Rattle.std.proofs.lemmas.List.{append-nil}
use Rattle.plan_check.specs.PlanText.{number_text}
use Rattle.plan_check.proofs.NumberLemmas.{same_number, relay_small, base_small}
use Rattle.plan_check.proofs.records.parse_base.Goals as goal

pub returns-in_err-load-clause-none : goal.returns-in_err-load-clause-none
returns-in_err-load-clause-none c = rw c.from_residual-in_err-load.ensures (λ b is same.
    let words : c.in_ok-rest.rest.now ≡ number_text b.0 ++ number_text b.1 = ap (drop 4) (sym c.in_ok-rest.ensures.found ∙ same) in
    let r = c.in_ok-relay.ensures in
    let parts = same_number c.in_ok-relay.relay b.0 c.in_ok-relay.rest.now (number_text b.1) (relay_small _ r.small) (relay_small _ is.relay) r.rest (λ not. not refl) (sym r.found ∙ words) in
    c.in_err-load.ensures.none b.1 [] is.some is.small tt (parts.1 ∙ sym (append-nil (number_text b.1))))

pub returns-else-is_empty-clause-none : goal.returns-else-is_empty-clause-none
returns-else-is_empty-clause-none c = λ b is same.
    let words : c.in_ok-rest.rest.now ≡ number_text b.0 ++ number_text b.1 = ap (drop 4) (sym c.in_ok-rest.ensures.found ∙ same) in
    let r = c.in_ok-relay.ensures in
    let l = c.in_ok-load.ensures in
    let parts = same_number c.in_ok-relay.relay b.0 c.in_ok-relay.rest.now (number_text b.1) (relay_small _ r.small) (relay_small _ is.relay) r.rest (λ not. not refl) (sym r.found ∙ words) in
    let last = same_number c.in_ok-load.load b.1 c.in_ok-load.rest.now [] (omega (arith, l.small)) (base_small b is) l.rest tt (sym l.found ∙ parts.1 ∙ sym (append-nil (number_text b.1))) in
    let some : 0 < length c.in_ok-load.rest.now = grind (arith, nat_tests) in
    omega (arith, ap length last.1)
