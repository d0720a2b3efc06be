use Rattle.std.proofs.Common.{ℕ, refl, ap, get_or, inl, inr, arith}
use Rattle.std.proofs.lemmas.List.{get_or_past}
use Rattle.std.proofs.lemmas.Bool.{cases_eq, cases_lt}
use Rattle.plan_check.proofs.verdict.greatest_of.Goals as goal
use Rattle.plan_check.proofs.verdict.greatest_of.Goals.{then-load-most, else-load-most}

pub loop-load-preserved : goal.loop-load-preserved
loop-load-preserved c =
    let inv = c.loop-load.invariant in
    let i : ℕ = c.loop-load.load-index in
    let loads = c.args.loads.now in
    elim c.if-load-most.branch [
      | then-load-most w ↦ rw w.most-is (record {
        bound = λ r lt. elim (cases_eq r i) [
          | inl is ↦ omega (arith, ap (λ k. get_or loads k 0) is)
          | inr ne ↦ omega (arith, inv.bound r (omega arith), w.if-load-most.true)
        ];
        some = λ none. absurd (omega arith);
        one = λ _. (i, refl);
      })
      | else-load-most w ↦ rw w.most-is (record {
        bound = λ r lt. elim (cases_eq r i) [
          | inl is ↦ omega (arith, ap (λ k. get_or loads k 0) is, w.if-load-most.false)
          | inr ne ↦ inv.bound r (omega arith)
        ];
        some = λ none. absurd (omega arith);
        one = λ _. elim (cases_eq i 0) [
          | inl first ↦ (i, omega (arith, w.if-load-most.false, inv.some first))
          | inr later ↦ inv.one (omega arith)
        ];
      })
    ]

pub returns : goal.returns
returns c =
    let inv = c.loop-load.invariant in (
      λ r. elim (cases_lt r 256) [
        | inl lt ↦ inv.bound r (omega arith)
        | inr ge ↦ omega (arith, get_or_past c.args.loads.now r 0 (omega (arith, c.told-loads)))
      ],
      inv.one (omega arith),
    )
