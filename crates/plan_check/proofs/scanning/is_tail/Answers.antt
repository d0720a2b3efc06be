use Rattle.std.proofs.Common.{◌≡◌, ℕ, not, false, Option, None, Some, refl, sym, ap, ◌∙◌, inl, inr}
use Rattle.std.specs.Prelude.{is_some}
use Rattle.std.proofs.lemmas.Bool.{eqb-true, eq-eqb, false≢true}
use Rattle.plan_check.proofs.Scanned.{tail_seen, tail_whole, no_tail}
use Rattle.plan_check.proofs.LineLemmas.{no_lines, no_text}
use Rattle.plan_check.proofs.scanning.is_tail.Goals as goal
use Rattle.plan_check.proofs.scanning.is_tail.Goals.{then-is_none, else-is_none}

no_some : (o : Option ℕ) → is_some o ≡ false → o ≡ None
no_some None h = refl
no_some (Some n) h = absurd (false≢true (sym h))

pub returns-then-rises : goal.returns-then-rises
returns-then-rises c =
    let f = c.in-Some.ensures.found in
    let gives = c.scan_gives-gives.ensures.run in (
      (λ empty. tail_seen _ _ _ _ _ f.0 c.in-Some.rises gives (no_some c.scan_gives-gives.result.out (c.is_none.ensures ∙ ap not c.if-rises.true.0)) f.1 f.2 f.3 c.if-rises.true.1
          (no_lines c.in-Some.rest.now (eqb-true _ 0 (sym c.is_empty.ensures ∙ empty)))),
      (λ tail. c.is_empty.ensures ∙ eq-eqb _ 0 (no_text c.in-Some.rest.now (tail_whole _ _ _ _ _ f.0 c.in-Some.rises gives f.1 f.2 f.3 tail).2)),
    )

pub returns-else-rises : goal.returns-else-rises
returns-else-rises c =
    let f = c.in-Some.ensures.found in
    let gives = c.scan_gives-gives.ensures.run in
    elim c.if-is_none.branch [
      | then-is_none w ↦ (
        (λ is.
            absurd (elim c.if-rises.either [
              | inl off ↦ false≢true (sym off.1 ∙ sym w.t-10-is ∙ is)
              | inr some ↦ false≢true (sym some ∙ w.if-is_none.true)
            ])),
        (λ tail. w.t-10-is ∙ (tail_whole _ _ _ _ _ f.0 c.in-Some.rises gives f.1 f.2 f.3 tail).1),
      )
      | else-is_none w ↦ ((λ is. absurd (false≢true (sym w.if-is_none.false ∙ sym w.t-10-is ∙ is))), (λ tail. absurd (false≢true (sym (ap is_some (tail_whole _ _ _ _ _ f.0 c.in-Some.rises gives f.1 f.2 f.3 tail).0) ∙ c.is_none.ensures ∙ ap not w.if-is_none.false))))
    ]

pub returns-in-None : goal.returns-in-None
returns-in-None c = ((λ is. absurd (false≢true is)), (λ tail. absurd (no_tail _ _ _ _ c.scan_gives-gives.ensures.run c.in-None.ensures.none tail)))
