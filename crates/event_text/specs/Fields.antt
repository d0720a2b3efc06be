-- What the fields of an event's object tell.
use Rattle.std.specs.Prelude.{◌≡◌, ◌<◌, ◌^◌, Some, Result, Ok, Err, IfSome, codes}
use Rattle.hex.specs.Hex.{encode_lower}
use Rattle.serde_json.specs.Data.{Data, Members, unsigned, number, string, array}
use Rattle.serde_json.specs.Find.{get, get_member}
use Rattle.item_key.specs.Keys.{endless}
use Rattle.item_key.specs.declared.Id.{Id}
use Rattle.nostr_event.specs.EventView.{EventView, IsBytesOf}
use Rattle.nostr_event.specs.EventJson.{Reads, Refuses, tags_items}
use Rattle.nostr_event.specs.declared.fault.EventFault.{EventFault}
use Rattle.event_text.specs.declared.fields.Fields.{Fields}

-- the members have the fields that were read, which are in their ranges
pub record Hold (found : Members) (f : Fields) : Type 0 where
  pub id : IfSome f.id (λ b. get_member (codes "id") found ≡ Some (string (encode_lower b)))
  pub pubkey : IfSome f.pubkey (λ b. get_member (codes "pubkey") found ≡ Some (string (encode_lower b)))
  pub created_at : IfSome f.created_at (λ n. get_member (codes "created_at") found ≡ Some (number (unsigned n)))
  pub kind : IfSome f.kind (λ n. get_member (codes "kind") found ≡ Some (number (unsigned n)))
  pub tags : IfSome f.tags (λ t. get_member (codes "tags") found ≡ Some (array (tags_items t)))
  pub content : IfSome f.content (λ s. get_member (codes "content") found ≡ Some (string s.now))
  pub sig : IfSome f.sig (λ b. get_member (codes "sig") found ≡ Some (string (encode_lower b)))
  pub id_bytes : IfSome f.id (IsBytesOf 32)
  pub pubkey_bytes : IfSome f.pubkey (IsBytesOf 32)
  pub finite : IfSome f.created_at (λ n. n < endless)
  pub low : IfSome f.kind (λ n. n < 2 ^ 16)
  pub sig_bytes : IfSome f.sig (IsBytesOf 64)

-- the value is an event, or has all that makes one but its id, which is this
abbrev pub Tells : Data → Result EventView Id → Type 0
Tells d (Ok e) = Reads d e
Tells d (Err i) = Refuses d EventFault.WrongId × (get (codes "id") d ≡ Some (string (encode_lower i.0))) × IsBytesOf 32 i.0
