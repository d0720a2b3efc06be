-- The text of a file of events.
use Rattle.std.specs.Prelude.{ℕ, List, [], ◌∷◌, ◌++◌}
use Rattle.std.specs.List.{flat_map}
use Rattle.serde_json.specs.Written.{compact_text}
use Rattle.nostr_event.specs.EventView.{EventView}
use Rattle.nostr_event.specs.EventJson.{object_of}

-- the event's compact JSON, and a line feed
abbrev pub line_of : EventView → List ℕ
line_of e = compact_text (object_of e) ++ 10 ∷ []

abbrev pub text_of : List EventView → List ℕ
text_of events = flat_map line_of events
