-- What is written for a message.
use Rattle.std.specs.Prelude.{ℕ, List, ◌∷◌, map}
use Rattle.serde_json.specs.Data.{Data, string, array}
use Rattle.serde_json.specs.View.{items_of}
use Rattle.serde_json.specs.Written.{compact_text}
use Rattle.nostr_wire.specs.Elements.{data_of}
use Rattle.nostr_wire.specs.Forms.{Form}

-- the array of the name and the elements
abbrev pub array_of : Form → Data
array_of m = array (items_of (string m.name ∷ map data_of m.said))

-- its text, with no space
abbrev pub text_of : Form → List ℕ
text_of m = compact_text (array_of m)
