-- Elements of lists.
use Rattle.std.proofs.Common.{◌≡◌, ℕ, zero, suc, ◌<◌, List, [], ◌∷◌, ◌++◌, length, get_or, take, drop, refl, ◌∙◌, arith}
use Rattle.std.proofs.lemmas.List.{take-append-le, take_all}

-- the element at an index, whatever is given for an index past the end
pub at_any : {X : Type 0} → (xs : List X) (i : ℕ) (d e : X) → i < length xs → get_or xs i d ≡ get_or xs i e
at_any [] i d e lt = absurd (omega arith)
at_any (x ∷ xs) zero d e lt = refl
at_any (x ∷ xs) (suc i) d e lt = at_any xs i d e (omega arith)

-- what a list becomes where all of it is written
pub written : {X : Type 0} → (old new : List X) (n : ℕ) → n ≡ length new → take n (new ++ drop (length new) old) ≡ new
written old new n e = take-append-le n new (drop (length new) old) (omega (arith, e)) ∙ take_all n new (omega (arith, e))
