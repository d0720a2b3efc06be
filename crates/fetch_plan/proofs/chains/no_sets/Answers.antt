use Rattle.std.proofs.Common.{◌≡◌, ◌++◌, ◌∷◌, [], ℕ, zero, suc, List, false, refl, arith}
use Rattle.std.proofs.lemmas.List.{length_push}
use Rattle.sharing.specs.Sharing.{is_among}
use Rattle.fetch_plan.specs.Chains.{set_at}
use Rattle.fetch_plan.proofs.chains.no_sets.Goals as goal

none_first : (r s : ℕ) → is_among (set_at [] r) s ≡ false
unfolding set_at
none_first r s = refl

none_more : (sets : List (List ℕ)) → ((r s : ℕ) → is_among (set_at sets r) s ≡ false) → (r s : ℕ) → is_among (set_at (sets ++ [] ∷ []) r) s ≡ false
unfolding set_at
none_more [] h zero s = refl
none_more [] h (suc r) s = refl
none_more (x ∷ xs) h zero s = h zero s
none_more (x ∷ xs) h (suc r) s = none_more xs (λ r s. h (suc r) s) r s

pub sets-init : goal.sets-init
sets-init c = rw c.in_ok-sets.ensures.items (record { none = none_first; long = omega arith })

pub sets-preserved : goal.sets-preserved
sets-preserved c = rw (c.in_ok-push.ensures.items, c.empty.ensures) (record {
  none = none_more _ c.sets.invariant.none;
  long = omega (arith, length_push c.sets.sets.items [], c.sets-test.true);
})
