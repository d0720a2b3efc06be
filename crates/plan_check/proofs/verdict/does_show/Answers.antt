use Rattle.std.proofs.Common.{◌≡◌, ◌-◌, ◌*◌, ◌<◌, ℕ, length, get_or, ap, ◌∙◌, inl, inr, arith}
use Rattle.std.specs.Prelude.{sum_by}
use Rattle.std.proofs.lemmas.Bool.{ltb-true, lt-ltb}
use Rattle.std.proofs.lemmas.Bool.Decides.{nat_tests}
use Rattle.sharing.specs.Bases.{base_in}
use Rattle.plan_check.proofs.Given.{sum_same}
use Rattle.plan_check.proofs.verdict.does_show.Goals as goal

pub returns-then-not-is_empty : goal.returns-then-not-is_empty
returns-then-not-is_empty c =
    let group = c.args.group.now in
    let base : ℕ → ℕ = base_in c.args.bases.now in
    let product : c.from.result * length group ≡ (c.args.most - 1) * length group = ap (λ n. n * length group) c.from.ensures in
    let sums : c.sum_of.result ≡ sum_by base group = c.sum_of.ensures.sum ∙ sum_same (λ r. get_or c.bases_of.result r 0) base c.bases_of.ensures.loads group in
    let some : 0 < length group = grind (arith, nat_tests) in (
      λ passes. inr (some, omega (arith, ltb-true _ _ passes, product, sums, c.count_alone.ensures.value)),
      λ shows. elim shows [
        | inl none ↦ absurd (c.if-most-eq0.false none)
        | inr more ↦ lt-ltb _ _ (omega (arith, more.1, product, sums, c.count_alone.ensures.value))
      ],
    )
