-- Lists that are cut at places.
use Rattle.std.specs.Prelude.{◌≡◌, ◌≤◌, ℕ, ◌-◌, List, [], ◌∷◌, length, take, drop}
use Rattle.std.specs.List.{All}
use Rattle.std.specs.Str.{IsUtf8}

-- what of a list stands from one place to another
abbrev pub part : {X : Type 0} → List X → ℕ → ℕ → List X
part xs start end = take (end - start) (drop start xs)

-- the parts of a list, of which the first begins at a place, and each other one where the one before it ends
abbrev pub parts : {X : Type 0} → List X → ℕ → List ℕ → List (List X)
parts xs start [] = []
parts xs start (end ∷ ends) = part xs start end ∷ parts xs end ends

-- the places rise from one to another
abbrev pub Rise : ℕ → List ℕ → ℕ → Type 0
Rise start [] last = start ≡ last
Rise start (end ∷ ends) last = (start ≤ end) × Rise end ends last

-- the bytes are those of texts, one behind the other, which end at these places
pub record AreTexts (bytes ends : List ℕ) : Type 0 where
  pub rise : Rise 0 ends (length bytes)
  pub texts : All IsUtf8 (parts bytes 0 ends)
