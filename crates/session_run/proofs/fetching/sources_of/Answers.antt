use Rattle.std.proofs.Common.{◌≡◌, ◌<◌, ◌^◌, ◌-◌, ◌++◌, ◌∷◌, [], ℕ, List, Option, Some, None, All, IfSome, refl, subst, sym}
use Rattle.std.proofs.lemmas.List.Elements.{All-push}
use Rattle.session_run.proofs.fetching.sources_of.Goals as goal

-- all are so where one that is so was added, or none
all_added : {S : Type 0} (IsSo : S → Type 0) (old new : List S) (found : Option (S × ℕ)) → IfSome found (λ f. new ≡ old ++ f.0 ∷ []) → (found ≡ None → new ≡ old)
    → All IsSo old → IfSome found (λ f. IsSo f.0) → All IsSo new
all_added IsSo old new (Some f) some none all is = subst (All IsSo) (sym some) (All-push IsSo old f.0 all is)
all_added IsSo old new None some none all is = subst (All IsSo) (sym (none refl)) all

pub loop-place-preserved : goal.loop-place-preserved
loop-place-preserved g c =
    all_added (λ s. s.source.faults < 2 ^ 64 - 1) _ _ _ c.in_ok-add_source.ensures.some c.in_ok-add_source.ensures.none c.loop-place.invariant c.in_ok-found.ensures
