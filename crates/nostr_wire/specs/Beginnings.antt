-- How the messages of events for a subscription begin.
use Rattle.std.specs.Prelude.{ℕ, List, [], ◌∷◌, ◌++◌, codes}
use Rattle.json.specs.Token.{Token}
use Rattle.json.specs.Print.{print}

-- their tokens up to its name
abbrev pub names : List ℕ → List Token
names s = Token.begin_array ∷ Token.string (codes "EVENT") ∷ Token.string s ∷ []

-- the text of these, and the comma before the event
abbrev pub beginning : List ℕ → List ℕ
beginning s = print (names s) ++ 44 ∷ []
