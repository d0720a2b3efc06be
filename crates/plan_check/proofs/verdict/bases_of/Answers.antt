use Rattle.std.proofs.Common.{◌≡◌, ◌<◌, ◌++◌, ◌∷◌, [], ℕ, ◌∙◌, ◌+◌, refl, sym, ap, get_or, take, replicate, arith, inl, inr}
use Rattle.std.proofs.lemmas.List.{get_or-replicate, get_or_past, length-replicate, length-set, take_more, get_or-set_other}
use Rattle.std.proofs.lemmas.Grind.{get_or-set_at}
use Rattle.std.proofs.lemmas.Bool.{cases_lt, cases_eq}
use Rattle.sharing.specs.Bases.{base_in}
use Rattle.plan_check.proofs.Given.{base_here, base_elsewhere, front_below}
use Rattle.plan_check.proofs.verdict.bases_of.Goals as goal

none_yet : (r : ℕ) → ◌≡◌ {A = ℕ} (get_or (replicate 256 0) r 0) 0
none_yet r = elim (cases_lt r 256) [
  | inl lt ↦ get_or-replicate 256 r 0 0 lt
  | inr ge ↦ get_or_past (replicate 256 0) r 0 (let n : ℕ = 0 in omega (arith, length-replicate 256 n))
]

pub loop-base-init : goal.loop-base-init
loop-base-init c = record { len = refl; loads = none_yet }

pub loop-base-preserved : goal.loop-base-preserved
loop-base-preserved c =
    let inv = c.loop-base.invariant in
    let bases = c.args.bases.now in
    let i : ℕ = c.loop-base.base-index in
    let lt : i < _ = c.loop-base-test.true in
    let b : ℕ × ℕ = get_or bases i (0, 0) in
    let more : take (i + 1) bases ≡ take i bases ++ b ∷ [] = take_more bases i (0, 0) lt in
    let relay = (c.requires.each i (0, 0) lt).relay in
    record {
      len = omega (arith, length-set c.loop-base.loads c.from.result b.1, inv.len);
      loads = λ r. elim (cases_eq r b.0) [
        | inl is ↦ get_or-set_at c.loop-base.loads c.from.result r b.1 0 (is ∙ sym c.from.ensures) (omega (arith, relay, c.from.ensures, inv.len)) ∙ sym (base_here (take i bases) b r (front_below bases i (0, 0) c.requires.ascend lt) is) ∙ ap (λ bs. base_in bs r) (sym more)
        | inr other ↦ get_or-set_other c.loop-base.loads c.from.result r b.1 0 (λ e. other (e ∙ c.from.ensures)) ∙ inv.loads r ∙ sym (base_elsewhere (take i bases) b r other) ∙ ap (λ bs. base_in bs r) (sym more)
      ];
    }
