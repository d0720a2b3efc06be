use Rattle.std.proofs.Common.{◌∙◌, ◌&&◌, ℕ, nat_eq, get_or, inl, inr, refl, sym, ap, arith}
use Rattle.std.proofs.lemmas.Bool.{and_parts, cases_eq, eq-eqb, eqb-true}
use Rattle.std.proofs.lemmas.List.{ext_get_or}
use Rattle.plan_check.proofs.words.are_same.Goals as goal

pub loop-place-init : goal.loop-place-init
loop-place-init c = record { yes = λ _ k lt. absurd (omega (arith, lt)); no = λ _. refl }

pub loop-place-preserved : goal.loop-place-preserved
loop-place-preserved c =
    let inv = c.loop-place.invariant in
    let text = c.args.text.now in
    let other = c.args.other.now in
    let place : ℕ = c.loop-place.place in
    record {
      yes = λ h k lt.
          (let parts = and_parts c.loop-place.same (nat_eq (get_or text place 0) (get_or other place 0)) h in
          elim (cases_eq k place) [
            | inl is ↦ ap (λ j. get_or text j 0) is ∙ eqb-true (get_or text place 0) (get_or other place 0) parts.1 ∙ sym (ap (λ j. get_or other j 0) is)
            | inr before ↦ inv.yes parts.0 k (omega (arith, lt))
          ]);
      no = λ e. ap (λ t. t && nat_eq (get_or text place 0) (get_or other place 0)) (inv.no e) ∙ eq-eqb (get_or text place 0) (get_or other place 0) (ap (λ bs. get_or bs place 0) e);
    }

pub returns : goal.returns
returns c = (
  λ yes. ext_get_or 0 c.args.text.now c.args.other.now c.requires (λ k lt. c.loop-place.invariant.yes yes k (omega (arith, lt, c.loop-place-test.false))),
  c.loop-place.invariant.no,
)
