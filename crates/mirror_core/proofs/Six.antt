-- Halves of six lists.
use Rattle.std.proofs.Common.{◌≡◌, ℕ, suc, List, [], ◌∷◌, ◌++◌, length, take, drop, refl, ap, ◌∙◌, arith}
use Rattle.std.proofs.Math.Seq.{take-append_seam}
use Rattle.mirror_core.specs.Six.{AllSix}

pub AllSix-append : {X Y Z : Type 0} (R : X → X → Y → Y → Z → Z → Type 0) (ps ps' bs bs' : List X) (cs cs' ds ds' : List Y) (es es' fs fs' : List Z)
    → AllSix R ps bs cs ds es fs → AllSix R ps' bs' cs' ds' es' fs' → AllSix R (ps ++ ps') (bs ++ bs') (cs ++ cs') (ds ++ ds') (es ++ es') (fs ++ fs')
AllSix-append R [] ps' [] bs' [] cs' [] ds' [] es' [] fs' h k = k
AllSix-append R (a ∷ ps) ps' (b ∷ bs) bs' (c ∷ cs) cs' (d ∷ ds) ds' (e ∷ es) es' (f ∷ fs) fs' h k = (h.0, AllSix-append R ps ps' bs bs' cs cs' ds ds' es es' fs fs' h.1 k)
AllSix-append R _ ps' _ bs' _ cs' _ ds' _ es' _ fs' h k = absurd h

pub six_lengths : {X Y Z : Type 0} (R : X → X → Y → Y → Z → Z → Type 0) (xs xs' : List X) (ys ys' : List Y) (zs zs' : List Z) → AllSix R xs xs' ys ys' zs zs' → (length xs' ≡ length xs) × (length zs' ≡ length zs)
six_lengths R [] [] [] [] [] [] h = (refl, refl)
six_lengths R (x ∷ xs) (x' ∷ xs') (y ∷ ys) (y' ∷ ys') (z ∷ zs) (z' ∷ zs') h = let t = six_lengths R xs xs' ys ys' zs zs' h.1 in (ap (λ (n : ℕ). suc n) t.0, ap (λ (n : ℕ). suc n) t.1)
six_lengths R _ _ _ _ _ _ h = absurd h

-- a vector that was written through a slice of all of it
pub written : {X : Type 0} (n : ℕ) (xs new : List X) → length new ≡ n → take n (new ++ drop (length new) xs) ≡ new
written n xs new e = let same : n ≡ length new = omega (arith, e) in ap (λ (m : ℕ). take m (new ++ drop (length new) xs)) same ∙ take-append_seam new (drop (length new) xs)
