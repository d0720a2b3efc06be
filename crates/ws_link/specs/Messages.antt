-- Messages of a relay that come over a wire, one at a time.
use Rattle.std.specs.Prelude.{◌≡◌, ℕ, List, [], ◌∷◌, ◌++◌, Option, None, Some, codes}
use Rattle.nostr_wire.specs.declared.messages.FromRelay.{FromRelay}
use Rattle.nostr_wire.specs.Forms.{Form, relay_form, relay_table}
use Rattle.nostr_wire.specs.Reading.{Reads}
use Rattle.websocket.specs.Connection.{Effect}
use Rattle.websocket.specs.Content.{Content, text}
use Rattle.wire.specs.Line.{Talk}
use Rattle.wire.specs.Talk.{Frames, AreParts, Listens}

-- the text is this message of a relay, and no other
abbrev pub IsOnly : Form → List ℕ → Type 0
IsOnly form words = Reads relay_table words form × ((other : Form) → Reads relay_table words other → other ≡ form)

-- the text is no message of a relay, or a notice
abbrev pub IsNoneOrNotice : List ℕ → Type 0
IsNoneOrNotice words = (form : Form) → Reads relay_table words form → form.name ≡ codes "NOTICE"

-- what the text means to a call: this message of a relay, or none
abbrev pub Means : List ℕ → Option FromRelay → Type 0
Means words None = IsNoneOrNotice words
Means words (Some message) = IsOnly (relay_form message) words

-- what was read is a text, which is this message of a relay, and no other
abbrev pub IsSaid : Form → Option Content → Type 0
IsSaid form m = (words : List ℕ) × (m ≡ Some (text words)) × IsOnly form words

-- where what was read is a text, it is no message of a relay, or a notice
abbrev pub IsForNoCall : Option Content → Type 0
IsForNoCall m = (words : List ℕ) → m ≡ Some (text words) → IsNoneOrNotice words

-- Frames were read, of which the last is or ends what is so, and the others are parts of it.
abbrev pub Hears : (Option Content → Type 0) → Talk → Talk → Type 0
Hears IsSo old new =
    (got : List ℕ) × (frames : Frames) × (last : ℕ × Effect)
    × Listens old new got (frames ++ last ∷ []) × AreParts frames × IsSo last.1.message

-- one message came, which is this message of a relay, or one for no call if none is told
abbrev pub MayHear : Talk → Talk → Option FromRelay → Type 0
MayHear old new None = Hears IsForNoCall old new
MayHear old new (Some message) = Hears (IsSaid (relay_form message)) old new
