-- The lines of a text.
use Rattle.std.specs.Prelude.{ℕ, ◌==◌, List, [], ◌∷◌, ◌++◌, ◌≡◌, if◌then◌else◌}

-- a line with a line feed at its end
abbrev pub ended : List ℕ → List ℕ
ended line = line ++ 10 ∷ []

-- a line feed ends the line
abbrev pub IsEnded : List ℕ → Type 0
IsEnded line = (words : List ℕ) × (line ≡ ended words)

-- a byte more at the front of the first line
abbrev pub onto_line : ℕ → List (List ℕ) → List (List ℕ)
onto_line b [] = (b ∷ []) ∷ []
onto_line b (line ∷ lines) = (b ∷ line) ∷ lines

-- Each line with the line feed at its end, which only the last may lack.
abbrev pub lines_of : List ℕ → List (List ℕ)
lines_of [] = []
lines_of (b ∷ bs) = if b == 10 then (10 ∷ []) ∷ lines_of bs else onto_line b (lines_of bs)

-- no line is there, or the first isn't such
abbrev pub FirstIsNot : {X : Type 0} → (X → Type 0) → List X → Type 0
FirstIsNot Such [] = Unit {0}
FirstIsNot Such (x ∷ xs) = ¬ Such x
