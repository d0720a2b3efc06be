-- What the tokens of a text give, each value as `serde_json` reads it.
use Rattle.std.specs.Prelude.{◌≡◌, ℕ, ◌≤◌, List, length, Some}
use Rattle.json.specs.Token.{Token}
use Rattle.json.specs.Json.{value, items, members}
use Rattle.serde_json.specs.Data.{Data, array, Members}
use Rattle.serde_json.specs.Read.{of_json, of_items, of_members, converted}
use Rattle.serde_json.specs.View.{items_of}
use Rattle.nostr_event.specs.EventJson.{tag_items}

-- the first tokens are a value that nests no deeper, and these are left behind it
abbrev pub IsNext : ℕ → List Token → Data → List Token → Type 0
IsNext depth ts d rest = converted of_json (value depth ts) ≡ Some (d, rest)

-- the first tokens are the elements of an array up to its end
abbrev pub Gives : ℕ → List Token → List Data → List Token → Type 0
Gives depth ts ds rest = (n : ℕ) → length ts ≤ n → converted of_items (items (value depth) n ts) ≡ Some (items_of ds, rest)

-- the first tokens are the members of an object up to its end; put to those that were found, they make these
abbrev pub GivesMembers : ℕ → List Token → Members → Members → List Token → Type 0
GivesMembers depth ts found all rest = (n : ℕ) → length ts ≤ n → converted (λ ms. of_members ms found) (members (value depth) n ts) ≡ Some (all, rest)

-- a tag, as a value
abbrev pub tag_data : List (List ℕ) → Data
tag_data texts = array (tag_items texts)
