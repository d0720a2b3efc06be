-- What an event is: an id, a draft and 64 bytes of signature, where the id is the digest of one of the draft's two texts.
use Rattle.std.specs.Prelude.{◌≡◌, ◌<◌, ◌^◌, ◌⊎◌, ℕ, List, length}
use Rattle.hex.specs.Hex.{IsBytes}
use Rattle.sha2.specs.Sha256.{sha256}
use Rattle.item_key.specs.Keys.{endless}
use Rattle.item_key.specs.declared.Id.{Id}
use Rattle.item_key.specs.declared.Item.{Item}
use Rattle.nostr_event.specs.declared.draft.Draft.{Draft}
use Rattle.nostr_event.specs.declared.draft.Spelling.TheVariants.{Plain, Escaped}
use Rattle.nostr_event.specs.IdText.{id_text_of}

pub record EventView : Type 0 where
  pub id : Id
  pub draft : Draft
  pub sig : List ℕ

-- n bytes
abbrev pub IsBytesOf : ℕ → List ℕ → Type 0
IsBytesOf n bytes = (length bytes ≡ n) × IsBytes bytes

-- the id is SHA-256 (FIPS 180-4) of the draft's text in one of its two spellings
abbrev pub IsIdOf : Id → Draft → Type 0
IsIdOf id d = (id.0 ≡ sha256 (id_text_of Plain d)) ⊎ (id.0 ≡ sha256 (id_text_of Escaped d))

-- the numbers are in their ranges, and of bytes there are as many as there must be
pub record IsInRange (e : EventView) : Type 0 where
  pub finite : e.draft.created_at < endless
  pub kind : e.draft.kind < 2 ^ 16
  pub id : IsBytesOf 32 e.id.0
  pub pubkey : IsBytesOf 32 e.draft.pubkey
  pub sig : IsBytesOf 64 e.sig

-- the id is right
pub record IsEvent (e : EventView) : Type 0 where
  pub right : IsIdOf e.id e.draft
  pub in_range : IsInRange e

-- the event's time and id
abbrev pub item_of : EventView → Item
item_of e = record { time = e.draft.created_at; id = e.id }
