-- The lines of a text.
use Rattle.std.specs.Prelude.{ℕ, ◌==◌, List, [], ◌∷◌, if◌then◌else◌}

-- a byte more at the front of the first line
abbrev pub onto_line : ℕ → List (List ℕ) → List (List ℕ)
onto_line b [] = (b ∷ []) ∷ []
onto_line b (line ∷ lines) = (b ∷ line) ∷ lines

-- Each line ends before a line feed. The last line feed may be missing, and no line stands after it.
abbrev pub lines_of : List ℕ → List (List ℕ)
lines_of [] = []
lines_of (b ∷ bs) = if b == 10 then [] ∷ lines_of bs else onto_line b (lines_of bs)

-- no line is there, or the first isn't such
abbrev pub FirstIsNot : (List ℕ → Type 0) → List (List ℕ) → Type 0
FirstIsNot Such [] = Unit {0}
FirstIsNot Such (line ∷ lines) = ¬ Such line
