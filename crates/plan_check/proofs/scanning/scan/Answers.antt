use Rattle.std.proofs.Common.{◌≡◌, ◌<◌, ◌∷◌, length, refl, sym, ap, ◌∙◌, arith}
use Rattle.std.proofs.lemmas.Bool.Decides.{nat_tests}
use Rattle.plan_check.proofs.FormLemmas.{grouped}
use Rattle.plan_check.proofs.Scanned.{group_wrong, end_wrong, seen_whole, seen_disorder}
use Rattle.plan_check.proofs.LineLemmas.{no_lines, some_lines}
use Rattle.plan_check.proofs.scanning.scan.Goals as goal

pub returns-in_default-clause-err : goal.returns-in_default-clause-err
returns-in_default-clause-err c = group_wrong _ _ _ _ _ _ _ _ _ _ c.in-Ok.ensures.head c.scan_offers-offers.ensures.run c.scan_gives-gives.ensures.run _ refl c.in_default.ensures.none

pub returns-then-not-is_empty-clause-err : goal.returns-then-not-is_empty-clause-err
returns-then-not-is_empty-clause-err c =
    let f = c.in-Some.ensures.found in
    let some : 0 < length c.in-Some.rest.now = grind (arith, nat_tests) in
    end_wrong _ _ _ _ _ _ _ _ _ _ c.in-Ok.ensures.head c.scan_offers-offers.ensures.run c.scan_gives-gives.ensures.run f.0 _ _ refl f.1 f.2 (some_lines c.in-Some.rest.now some)

pub returns-in-Some-first_place-clause-err : goal.returns-in-Some-first_place-clause-err
returns-in-Some-first_place-clause-err c =
    let f = c.in-Some.ensures.found in
    let none : length c.in-Some.rest.now ≡ 0 = grind (arith, nat_tests) in
    rw c.saturating_add.ensures (seen_disorder _ _ _ _ _ _ _ _ _ _ c.in-Ok.ensures.head c.scan_offers-offers.ensures.run c.scan_gives-gives.ensures.run c.args.text.now f.0 c.in-Some.rises c.in-Some-first_place.place refl
    (f.2 ∙ ap (λ t. grouped f.0 ∷ t) (no_lines c.in-Some.rest.now none)) f.1 f.3 (sym c.first_place.ensures ∙ c.in-Some-first_place.is))

pub returns-in-None-clause-ok : goal.returns-in-None-clause-ok
returns-in-None-clause-ok c =
    let f = c.in-Some.ensures.found in
    let none : length c.in-Some.rest.now ≡ 0 = grind (arith, nat_tests) in
    seen_whole _ _ _ _ _ _ _ _ _ _ c.in-Ok.ensures.head c.scan_offers-offers.ensures.run c.scan_gives-gives.ensures.run c.args.text.now f.0 c.in-Some.rises refl
    (f.2 ∙ ap (λ t. grouped f.0 ∷ t) (no_lines c.in-Some.rest.now none)) f.1 f.3 (sym c.first_place.ensures ∙ c.in-None.is)
