-- A relation over three lists of one length, before and after, place by place.
use Rattle.std.specs.Prelude.{List, [], ◌∷◌}

abbrev pub AllSix : {X Y Z : Type 0} → (X → X → Y → Y → Z → Z → Type 0) → List X → List X → List Y → List Y → List Z → List Z → Type 0
AllSix R [] [] [] [] [] [] = Unit {0}
AllSix R (x ∷ xs) (x' ∷ xs') (y ∷ ys) (y' ∷ ys') (z ∷ zs) (z' ∷ zs') = R x x' y y' z z' × AllSix R xs xs' ys ys' zs zs'
AllSix R _ _ _ _ _ _ = ⊥
