-- Texts of arrays, which are put part by part.
use Rattle.std.proofs.Common.{◌≡◌, ◌∙◌, ℕ, List, [], ◌∷◌, ◌++◌, flat_map, append_assoc, append-nil, sym}
use Rattle.nostr_event.specs.IdText.{joined}

-- the text of the first thing, and those of the others, are the texts of all
pub joined_some : {X : Type 0} (text : X → List ℕ) (xs rest : List X) (x : X) (begun first all : List ℕ) → xs ≡ x ∷ rest
    → first ≡ begun ++ text x → all ≡ first ++ flat_map (λ y. 44 ∷ text y) rest → all ≡ begun ++ joined text xs
joined_some text xs rest x begun first all is one others =
    others ∙ rw (one, is) (append_assoc begun (text x) (flat_map (λ y. 44 ∷ text y) rest))

-- and where there is nothing, nothing is put
pub joined_none : {X : Type 0} (text : X → List ℕ) (xs : List X) (begun : List ℕ) → xs ≡ [] → begun ≡ begun ++ joined text xs
joined_none text xs begun is = rw is (sym (append-nil begun))

-- what stands between brackets
pub bracketed : (old begun inner all end : List ℕ) → begun ≡ old ++ 91 ∷ [] → all ≡ begun ++ inner → end ≡ all ++ 93 ∷ []
    → end ≡ old ++ 91 ∷ (inner ++ 93 ∷ [])
bracketed old begun inner all end opened put closed =
    closed ∙ rw (put, opened) (append_assoc (old ++ 91 ∷ []) inner (93 ∷ []) ∙ append_assoc old (91 ∷ []) (inner ++ 93 ∷ []))
