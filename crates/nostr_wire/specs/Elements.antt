-- What stands in a message's array behind its name (NIP-01, NIP-77).
use Rattle.std.specs.Prelude.{◌≡◌, ◌≢◌, ◌&&◌, ℕ, List, length, Bool, nat_le, Option, Some, None, is_some, Ok, codes, true}
use Rattle.std.specs.Str.{chars}
use Rattle.hex.specs.Hex.{encode_lower, decode_of}
use Rattle.serde_json.specs.Data.{Data, boolean, string}
use Rattle.serde_json.specs.Find.{get, as_str, as_bool, as_object}
use Rattle.item_key.specs.declared.Id.{Id}
use Rattle.item_key.specs.Keys.{IsId}
use Rattle.nostr_event.specs.EventView.{EventView}
use Rattle.nostr_event.specs.EventJson.{Reads as ReadsEvent, Refuses as RefusesEvent, object_of as event_object}
use Rattle.nostr_event.specs.declared.fault.EventFault.{EventFault}
use Rattle.nostr_filter.specs.declared.filter.Filter.{Filter}
use Rattle.nostr_filter.specs.FilterJson.{Reads as ReadsFilter, object_of as filter_object}
use Rattle.nostr_wire.specs.declared.fault.WireFault.{WireFault}

-- what an element is to be
pub data Part : Type 0 where
  a_sub : Part
  a_text : Part
  a_flag : Part
  an_id : Part
  some_hex : Part
  an_event : Part
  a_filter : Part

-- what an element says: texts are their UTF-8 bytes, and hex is the bytes that it spells
pub data Said : Type 0 where
  sub : List ℕ → Said
  text : List ℕ → Said
  flag : Bool → Said
  id : Id → Said
  hex : List ℕ → Said
  event : EventView → Said
  filter : Filter → Said

abbrev pub part_of : Said → Part
part_of (sub s) = a_sub
part_of (text s) = a_text
part_of (flag b) = a_flag
part_of (id i) = an_id
part_of (hex bytes) = some_hex
part_of (event e) = an_event
part_of (filter f) = a_filter

-- a name of a subscription or a session: 1 to 64 characters
abbrev pub is_sub : List ℕ → Bool
is_sub s = nat_le 1 (length (chars s)) && nat_le (length (chars s)) 64

-- ---- what is read

-- the JSON type of a part
abbrev pub has_type : Part → Data → Bool
has_type a_sub d = is_some (as_str d)
has_type a_text d = is_some (as_str d)
has_type a_flag d = is_some (as_bool d)
has_type an_id d = is_some (as_str d)
has_type some_hex d = is_some (as_str d)
has_type an_event d = is_some (as_object d)
has_type a_filter d = is_some (as_object d)

-- the value d says this; hex digits are taken in both cases, but those of an id
abbrev pub Says : Data → Said → Type 0
Says d (sub s) = (d ≡ string s) × (is_sub s ≡ true)
Says d (text s) = d ≡ string s
Says d (flag b) = d ≡ boolean b
Says d (id i) = (d ≡ string (encode_lower i.0)) × IsId i
Says d (hex bytes) = (digits : List ℕ) × (d ≡ string digits) × (decode_of digits ≡ Ok bytes)
Says d (event e) = ReadsEvent d e
Says d (filter f) = ReadsFilter d f

-- it says nothing of that part
abbrev pub SaysNo : Part → Data → Type 0
SaysNo a_sub d = (s : List ℕ) → ¬ Says d (sub s)
SaysNo a_text d = (s : List ℕ) → ¬ Says d (text s)
SaysNo a_flag d = (b : Bool) → ¬ Says d (flag b)
SaysNo an_id d = (i : Id) → ¬ Says d (id i)
SaysNo some_hex d = (bytes : List ℕ) → ¬ Says d (hex bytes)
SaysNo an_event d = (e : EventView) → ¬ Says d (event e)
SaysNo a_filter d = (f : Filter) → ¬ Says d (filter f)

-- the id that the object's field `id` spells in 64 lower-case hexadecimal digits, if it does
abbrev pub IsIdIn : Data → Option Id → Type 0
IsIdIn d (Some i) = (get (codes "id") d ≡ Some (string (encode_lower i.0))) × IsId i
IsIdIn d None = (i : Id) → IsId i → get (codes "id") d ≢ Some (string (encode_lower i.0))

-- the fault of an element of that part that says nothing of it
abbrev pub IsFaultOf : Part → Data → WireFault → Type 0
IsFaultOf a_sub d f = f ≡ WireFault.Sub
IsFaultOf a_text d f = ⊥
IsFaultOf a_flag d f = ⊥
IsFaultOf an_id d f = f ≡ WireFault.HexText
IsFaultOf some_hex d f = f ≡ WireFault.HexText
IsFaultOf an_event d f = (e : EventFault) × (i : Option Id) × (f ≡ WireFault.Event e i) × (e ≢ EventFault.Memory) × RefusesEvent d e × IsIdIn d i
IsFaultOf a_filter d f = f ≡ WireFault.Filter

-- ---- what is written

abbrev pub data_of : Said → Data
data_of (sub s) = string s
data_of (text s) = string s
data_of (flag b) = boolean b
data_of (id i) = string (encode_lower i.0)
data_of (hex bytes) = string (encode_lower bytes)
data_of (event e) = event_object e
data_of (filter f) = filter_object f
