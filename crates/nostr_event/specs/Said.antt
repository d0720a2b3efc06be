-- What the text of an event's JSON says that isn't kept beside it.
use Rattle.std.specs.Prelude.{ℕ, List, [], Result, Ok, Err, option_and_then, unwrap_or, codes}
use Rattle.hex.specs.Hex.{decode_of}
use Rattle.serde_json.specs.Find.{get, as_str}
use Rattle.serde_json.specs.Read.{read}
use Rattle.item_key.specs.declared.Id.{Id}
use Rattle.nostr_event.specs.EventView.{EventView}

-- the string of the field of that name, in the object that the text is
abbrev pub field_in : List ℕ → List ℕ → List ℕ
field_in name text = unwrap_or (option_and_then as_str (option_and_then (get name) (read text))) []

abbrev pub bytes_or_none : {E : Type 0} → Result (List ℕ) E → List ℕ
bytes_or_none (Ok bytes) = bytes
bytes_or_none (Err e) = []

-- the content
unfoldable pub content_in : List ℕ → List ℕ
content_in text = field_in (codes "content") text

-- the signature, which stands there in hexadecimal digits
unfoldable pub sig_in : List ℕ → List ℕ
sig_in text = bytes_or_none (decode_of (field_in (codes "sig") text))

-- the event of these parts, of which the text has the content and the signature
abbrev pub event_with : (id : Id) (pubkey : List ℕ) (created_at kind : ℕ) (tags : List (List (List ℕ))) (text : List ℕ) → EventView
event_with id pubkey created_at kind tags text = record {
  id = id;
  draft = record { pubkey = pubkey; created_at = created_at; kind = kind; tags = tags; content = content_in text };
  sig = sig_in text;
}
