-- What holds of all messages.
use Rattle.std.specs.Prelude.{◌≡◌, ℕ, ◌≤◌, List, length, Contains, Ok}
use Rattle.item_key.specs.declared.Item.{Item}
use Rattle.item_key.specs.Keys.{IsKey}
use Rattle.neg_codec.specs.Ranges.{Span, Stretch, stretches, Lies, IsMessage}
use Rattle.neg_codec.specs.Text.{Spells}
use Rattle.neg_codec.specs.Encoding.{text_of}
use Rattle.neg_codec.specs.Reading.{message_at, longest}

-- each key lies in just one stretch of a message
abbrev pub OneStretch : Type 0
OneStretch =
    (rs : List Span) (k : Item) → IsMessage rs → IsKey k
    → (s : Stretch) × Contains (stretches rs) s × Lies k s × ((t : Stretch) → Contains (stretches rs) t → Lies k t → t ≡ s)

-- bytes spell one message at most
abbrev pub OneMessage : Type 0
OneMessage = (bytes : List ℕ) (a b : List Span) → Spells bytes a → Spells bytes b → a ≡ b

-- what is written for a message, where it isn't too long, is read as the message
abbrev pub RoundTrip : Type 0
RoundTrip = (m : List Span) → IsMessage m → length (text_of m) ≤ longest → message_at (text_of m) ≡ Ok m
