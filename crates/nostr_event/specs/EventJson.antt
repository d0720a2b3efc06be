-- Events as JSON objects (NIP-01).
use Rattle.std.specs.Prelude.{◌≡◌, ◌^◌, ◌<◌, ℕ, List, [], ◌∷◌, map, Bool, true, false, ◌&&◌, if◌then◌else◌, nat_lt, Option, Some, None, is_some, option_map, option_and_then, unwrap_or, codes}
use Rattle.hex.specs.Hex.{encode_lower}
use Rattle.serde_json.specs.Data.{unsigned, Data, number, string, array, object, Items, no_items, item, no_members, member}
use Rattle.serde_json.specs.Find.{get, as_str, as_number, as_array, as_object, as_u64}
use Rattle.serde_json.specs.View.{items_of, number_view}
use Rattle.item_key.specs.Keys.{endless}
use Rattle.nostr_event.specs.EventView.{EventView, IsBytesOf, IsIdOf, IsInRange}
use Rattle.nostr_event.specs.declared.fields.Shapes.{Shapes}
use Rattle.nostr_event.specs.declared.reading.Bare.{Bare}
use Rattle.nostr_event.specs.declared.fault.EventField.{EventField}
use Rattle.nostr_event.specs.declared.fault.EventField.TheVariants.{Object, Id, Pubkey, CreatedAt, Kind, Tags, Content, Sig}
use Rattle.nostr_event.specs.declared.fault.EventFault.{EventFault}
use Rattle.nostr_event.specs.declared.fault.EventFault.TheVariants.{Shape, Hex, Range, WrongId, Memory}

-- an array of strings
abbrev pub tag_items : List (List ℕ) → Items
tag_items texts = items_of (map string texts)

-- an array of arrays of strings
abbrev pub tags_items : List (List (List ℕ)) → Items
tags_items tags = items_of (map (λ t. array (tag_items t)) tags)

-- the object d has the seven fields of the event e, which are in their ranges
pub record HasFields (d : Data) (e : EventView) : Type 0 where
  pub id : get (codes "id") d ≡ Some (string (encode_lower e.id.0))
  pub pubkey : get (codes "pubkey") d ≡ Some (string (encode_lower e.draft.pubkey))
  pub created_at : get (codes "created_at") d ≡ Some (number (unsigned e.draft.created_at))
  pub kind : get (codes "kind") d ≡ Some (number (unsigned e.draft.kind))
  pub tags : get (codes "tags") d ≡ Some (array (tags_items e.draft.tags))
  pub content : get (codes "content") d ≡ Some (string e.draft.content)
  pub sig : get (codes "sig") d ≡ Some (string (encode_lower e.sig))
  pub in_range : IsInRange e

-- d reads as the event e
abbrev pub Reads : Data → EventView → Type 0
Reads d e = HasFields d e × IsIdOf e.id e.draft

-- ---- the tests of the fields, in their order

-- the name of the first test that fails
abbrev pub first_failing : {X : Type 0} → List (X × Bool) → Option X
first_failing [] = None
first_failing (t ∷ ts) = if t.1 then first_failing ts else Some t.0

abbrev pub is_text_at : List ℕ → Data → Bool
is_text_at name d = is_some (option_and_then as_str (get name d))

abbrev pub is_number_at : List ℕ → Data → Bool
is_number_at name d = is_some (option_and_then as_number (get name d))

abbrev pub are_texts : Items → Bool
are_texts no_items = true
are_texts (item d ds) = is_some (as_str d) && are_texts ds

abbrev pub is_tag : Data → Bool
is_tag d = unwrap_or (option_map are_texts (as_array d)) false

abbrev pub are_tags : Items → Bool
are_tags no_items = true
are_tags (item d ds) = is_tag d && are_tags ds

abbrev pub is_tags_at : List ℕ → Data → Bool
is_tags_at name d = unwrap_or (option_map are_tags (option_and_then as_array (get name d))) false

abbrev pub shape_tests : Data → List (EventField × Bool)
shape_tests d =
    (Object, is_some (as_object d)) ∷ (Id, is_text_at (codes "id") d) ∷ (Pubkey, is_text_at (codes "pubkey") d)
    ∷ (CreatedAt, is_number_at (codes "created_at") d) ∷ (Kind, is_number_at (codes "kind") d)
    ∷ (Tags, is_tags_at (codes "tags") d) ∷ (Content, is_text_at (codes "content") d) ∷ (Sig, is_text_at (codes "sig") d) ∷ []

-- ---- what each refusal says

-- the fields with their JSON types, and tags of theirs
pub record HasShapes (d : Data) (s : Shapes) : Type 0 where
  pub id : get (codes "id") d ≡ Some (string s.id.now)
  pub pubkey : get (codes "pubkey") d ≡ Some (string s.pubkey.now)
  pub created_at : get (codes "created_at") d ≡ Some (number (number_view s.created_at.now))
  pub kind : get (codes "kind") d ≡ Some (number (number_view s.kind.now))
  pub tags : is_tags_at (codes "tags") d ≡ true
  pub content : get (codes "content") d ≡ Some (string s.content.now)
  pub sig : get (codes "sig") d ≡ Some (string s.sig.now)

-- the field of that name spells n bytes in 2n lower-case hexadecimal digits
abbrev pub IsHexAt : List ℕ → ℕ → Data → Type 0
IsHexAt name n d = (bytes : List ℕ) × IsBytesOf n bytes × (get name d ≡ Some (string (encode_lower bytes)))

abbrev pub is_below_at : ℕ → List ℕ → Data → Bool
is_below_at n name d = unwrap_or (option_map (λ k. nat_lt k n) (option_and_then as_u64 (option_and_then as_number (get name d)))) false

abbrev pub range_tests : Data → List (EventField × Bool)
range_tests d = (CreatedAt, is_below_at endless (codes "created_at") d) ∷ (Kind, is_below_at (2 ^ 16) (codes "kind") d) ∷ []

-- the first field, in their order, that is no hexadecimal text
abbrev pub IsFirstNotHex : Data → EventField → Type 0
IsFirstNotHex d Object = ⊥
IsFirstNotHex d Id = ¬ IsHexAt (codes "id") 32 d
IsFirstNotHex d Pubkey = IsHexAt (codes "id") 32 d × ¬ IsHexAt (codes "pubkey") 32 d
IsFirstNotHex d CreatedAt = ⊥
IsFirstNotHex d Kind = ⊥
IsFirstNotHex d Tags = ⊥
IsFirstNotHex d Content = ⊥
IsFirstNotHex d Sig = IsHexAt (codes "id") 32 d × IsHexAt (codes "pubkey") 32 d × ¬ IsHexAt (codes "sig") 64 d

abbrev pub AreHex : Data → Type 0
AreHex d = IsHexAt (codes "id") 32 d × IsHexAt (codes "pubkey") 32 d × IsHexAt (codes "sig") 64 d

-- all tests are passed, which is all but whether the id is right
abbrev pub Passes : Data → Type 0
Passes d = (first_failing (shape_tests d) ≡ None) × AreHex d × (first_failing (range_tests d) ≡ None)

-- the fields but the tags, with the bytes and numbers that they spell
pub record HasBare (d : Data) (b : Bare) : Type 0 where
  pub id : get (codes "id") d ≡ Some (string (encode_lower b.id))
  pub pubkey : get (codes "pubkey") d ≡ Some (string (encode_lower b.pubkey))
  pub created_at : get (codes "created_at") d ≡ Some (number (unsigned b.created_at))
  pub kind : get (codes "kind") d ≡ Some (number (unsigned b.kind))
  pub tags : is_tags_at (codes "tags") d ≡ true
  pub content : get (codes "content") d ≡ Some (string b.content.now)
  pub sig : get (codes "sig") d ≡ Some (string (encode_lower b.sig))
  pub finite : b.created_at < endless
  pub low : b.kind < 2 ^ 16
  pub id_bytes : IsBytesOf 32 b.id
  pub pubkey_bytes : IsBytesOf 32 b.pubkey
  pub sig_bytes : IsBytesOf 64 b.sig

-- the fault f is the first that d has; want of memory is told only where no fault but that of the id can be found
abbrev pub Refuses : Data → EventFault → Type 0
Refuses d (Shape f) = first_failing (shape_tests d) ≡ Some f
Refuses d (Hex f) = (first_failing (shape_tests d) ≡ None) × IsFirstNotHex d f
Refuses d (Range f) = (first_failing (shape_tests d) ≡ None) × AreHex d × (first_failing (range_tests d) ≡ Some f)
Refuses d WrongId = (e : EventView) × HasFields d e × ¬ IsIdOf e.id e.draft
Refuses d Memory = Passes d

-- ---- what is written

-- the object of the seven fields
abbrev pub object_of : EventView → Data
object_of e = object (
    member (codes "content") (string e.draft.content) (member (codes "created_at") (number (unsigned e.draft.created_at))
    (member (codes "id") (string (encode_lower e.id.0)) (member (codes "kind") (number (unsigned e.draft.kind))
    (member (codes "pubkey") (string (encode_lower e.draft.pubkey)) (member (codes "sig") (string (encode_lower e.sig))
    (member (codes "tags") (array (tags_items e.draft.tags)) no_members)))))))
