-- Which lines a text goes on with.
use Rattle.std.proofs.Common.{◌≡◌, ◌≢◌, ℕ, List, [], ◌∷◌, ◌++◌, map, ap, sym, ◌∙◌, subst, append_assoc}
use Rattle.std.proofs.lemmas.List.{map-append}
use Rattle.plan_check.specs.TextLines.{ended, IsEnded, FirstIsNot}
use Rattle.plan_check.specs.PlanParts.{IsLineOf}
use Rattle.plan_check.proofs.LineLemmas.{same_words}

pub first_weaker : {X : Type 0} (P Q : X → Type 0) → ((x : X) → Q x → P x) → (xs : List X) → FirstIsNot P xs → FirstIsNot Q xs
first_weaker P Q f [] h = tt
first_weaker P Q f (x ∷ xs) h = λ q. h (f x q)

pub first_here : {X : Type 0} (Q : X → Type 0) (lines rest : List X) (x : X) → lines ≡ x ∷ rest → ¬ Q x → FirstIsNot Q lines
first_here Q lines rest x e not = subst (FirstIsNot Q) (sym e) not

-- the first line tells something else
pub other_word : (word line : List ℕ) (lines rest : List (List ℕ)) → lines ≡ ended line ∷ rest → line ≢ word → FirstIsNot (λ l. l ≡ ended word) lines
other_word word line lines rest e not = first_here (λ l. l ≡ ended word) lines rest (ended line) e (λ same. not (same_words line word same))

module _ {X : Type 0} (line : X → List ℕ) (IsIt : X → Type 0) where
  pub no_line : (lines : List (List ℕ)) → FirstIsNot IsEnded lines → FirstIsNot (IsLineOf line IsIt) lines
  no_line lines h = first_weaker IsEnded (IsLineOf line IsIt) (λ l o. (line o.0, o.2)) lines h

  pub other_line : (words : List ℕ) (lines rest : List (List ℕ)) → lines ≡ ended words ∷ rest → ((x : X) → IsIt x → words ≢ line x) → FirstIsNot (IsLineOf line IsIt) lines
  other_line words lines rest e none = first_here (IsLineOf line IsIt) lines rest (ended words) e (λ h. none h.0 h.1 (same_words words (line h.0) h.2))

-- one line more, of a record
pub more_lines : {X : Type 0} (f : X → List ℕ) (xs : List X) (x : X) (line : List ℕ) (lines rest after : List (List ℕ)) → lines ≡ map f xs ++ rest → rest ≡ ended line ∷ after → f x ≡ ended line → lines ≡ map f (xs ++ x ∷ []) ++ after
more_lines f xs x line lines rest after e r is =
    e ∙ ap (λ t. map f xs ++ t) (r ∙ ap (λ t. t ∷ after) (sym is)) ∙ sym (append_assoc (map f xs) (f x ∷ []) after) ∙ ap (λ t. t ++ after) (sym (map-append f xs (x ∷ [])))
