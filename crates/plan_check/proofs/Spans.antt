-- Lists that begin with elements of one kind.
use Rattle.std.proofs.Common.{◌≡◌, List, [], ◌∷◌, ◌++◌, refl, sym, subst}
use Rattle.std.specs.List.{All}
use Rattle.std.proofs.lemmas.List.Elements.{All-head, All-tail}
use Rattle.plan_check.specs.TextLines.{FirstIsNot}

-- the front of such elements is determined
pub peel : {X : Type 0} (P : X → Type 0) (us vs xs ys : List X) → All P us → All P vs → FirstIsNot P xs → FirstIsNot P ys → us ++ xs ≡ vs ++ ys → (us ≡ vs) × (xs ≡ ys)
peel P [] [] xs ys hu hv hx hy e = (refl, e)
peel P [] (v ∷ vs) xs ys hu hv hx hy e = absurd (subst (FirstIsNot P) e hx (All-head P v vs hv))
peel P (u ∷ us) [] xs ys hu hv hx hy e = absurd (subst (FirstIsNot P) (sym e) hy (All-head P u us hu))
peel P (u ∷ us) (v ∷ vs) xs ys hu hv hx hy e =
    let head : u ≡ v = cc in
    let tail : us ++ xs ≡ vs ++ ys = cc in
    let rest = peel P us vs xs ys (All-tail P u us hu) (All-tail P v vs hv) hx hy tail in
    let front : us ≡ vs = rest.0 in
    (cc, rest.1)
