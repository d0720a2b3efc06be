use Rattle.std.proofs.Common.{◌≡◌, ℕ, ◌<◌, List, [], ◌∷◌, ◌++◌, inl, inr, sym, subst, arith}
use Rattle.std.specs.Prelude.{All, Contains}
use Rattle.std.proofs.lemmas.Bool.{cases_lt}
use Rattle.std.proofs.lemmas.List.Elements.{All-push, Contains-append_left, Contains-push}
use Rattle.event_table.proofs.indexing.put_range.Goals as goal

pub loop-place-preserved : goal.loop-place-preserved
loop-place-preserved c =
    let old = c.loop-place.places.items in
    let place = c.loop-place.place in
    record {
      below = λ b. subst (λ (ps : List ℕ). All (λ p. p < c.args.end) ps) (sym c.in_ok-push.ensures.items) (All-push (λ p. p < c.args.end) old place (c.loop-place.invariant.below b) c.loop-place-test.true);
      kept = λ i there. subst (λ (ps : List ℕ). Contains ps i) (sym c.in_ok-push.ensures.items) (Contains-append_left old (place ∷ []) i (c.loop-place.invariant.kept i there));
      put = λ i le lt. subst (λ (ps : List ℕ). Contains ps i) (sym c.in_ok-push.ensures.items) (elim (cases_lt i place) [
        | inl early ↦ Contains-append_left old (place ∷ []) i (c.loop-place.invariant.put i le early)
        | inr late ↦
            let same : place ≡ i = omega (arith, lt, late) in
            subst (λ n. Contains (old ++ place ∷ []) n) same (Contains-push old place)
      ]);
    }
