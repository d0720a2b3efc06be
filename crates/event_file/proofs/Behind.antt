-- Where the text behind a line begins.
use Rattle.std.proofs.Common.{◌≡◌, ℕ, ◌+◌, ◌-◌, ◌≤◌, ◌⊎◌, List, [], ◌∷◌, ◌++◌, length, drop, inl, inr, refl, ap, sym, arith, length-append, append_assoc, ◌∙◌}
use Rattle.std.proofs.Math.Seq.{drop-append_seam}
use Rattle.std.proofs.lemmas.List.{drop-drop, drop_all}

behind_front : (text front rest : List ℕ) → text ≡ front ++ rest → rest ≡ drop (length text - length rest) text
behind_front text front rest is =
    let count : length front ≡ length text - length rest = omega (arith, ap length is, length-append front rest) in
    sym (ap (λ n. drop n text) (sym count) ∙ ap (drop (length front)) is ∙ drop-append_seam front rest)

-- the text behind a line is the end of the text
pub behind_line : (text line rest : List ℕ) → (text ≡ line ++ 10 ∷ rest) ⊎ ((text ≡ line) × (rest ≡ [])) → rest ≡ drop (length text - length rest) text
behind_line text line rest (inl is) = behind_front text (line ++ 10 ∷ []) rest (is ∙ sym (append_assoc line (10 ∷ []) rest))
behind_line text line rest (inr h) =
    h.1 ∙ sym (ap (λ (r : List ℕ). drop (length text - length r) text) h.1 ∙ drop_all (length text - 0) text (omega arith))

-- what is behind the end of a text is behind the text
pub behind_more : (text rest after : List ℕ) → length rest ≤ length text → length after ≤ length rest → rest ≡ drop (length text - length rest) text → after ≡ drop (length rest - length after) rest
    → after ≡ drop (length text - length after) text
behind_more text rest after few fewer is more =
    let sum : (length text - length rest) + (length rest - length after) ≡ length text - length after = omega (arith, few, fewer) in
    more ∙ ap (drop (length rest - length after)) is ∙ drop-drop (length rest - length after) (length text - length rest) text ∙ ap (λ n. drop n text) sum
