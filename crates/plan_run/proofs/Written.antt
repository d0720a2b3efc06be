-- What is written part by part.
use Rattle.std.proofs.Common.{◌≡◌, ℕ, List, ◌++◌, Option, None, Some, ap, ◌∙◌, subst, append_assoc}
use Rattle.std.specs.Io.KnownBytes.{Appends}

-- first these bytes, then those
pub Appends-both : (a b c : Option (List ℕ)) (first second : List ℕ) → Appends a b first → Appends b c second → Appends a c (first ++ second)
Appends-both None b c first second h k = tt
Appends-both (Some xs) None c first second h k = absurd h
Appends-both (Some xs) (Some ys) None first second h k = absurd k
Appends-both (Some xs) (Some ys) (Some zs) first second h k = k ∙ ap (λ t. t ++ second) h ∙ append_assoc xs first second

-- the same bytes
pub Appends-same : (a b : Option (List ℕ)) (first second : List ℕ) → first ≡ second → Appends a b first → Appends a b second
Appends-same a b first second same h = let P : List ℕ → Type 0 = λ t. Appends a b t in subst P same h
