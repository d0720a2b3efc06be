-- Filters as JSON objects (NIP-01).
use Rattle.std.specs.Prelude.{◌≡◌, ◌<◌, ◌^◌, ◌++◌, ℕ, List, [], ◌∷◌, map, Bool, true, if◌then◌else◌, nat_lt, Option, Some, None, is_some, option_map, option_and_then, codes, All, IfSome}
use Rattle.hex.specs.Hex.{encode_lower}
use Rattle.serde_json.specs.Data.{unsigned, Data, number, string, array, object, Items, no_items, item, Members, no_members, put}
use Rattle.serde_json.specs.Find.{get, as_str, as_number, as_array, as_object, as_u64}
use Rattle.serde_json.specs.View.{items_of}
use Rattle.nostr_event.specs.EventView.{IsBytesOf}
use Rattle.nostr_filter.specs.declared.conditions.TagCondition.{TagCondition}
use Rattle.nostr_filter.specs.declared.filter.Filter.{Filter}
use Rattle.nostr_filter.specs.declared.reading.Shapes.{Shapes}
use Rattle.nostr_filter.specs.declared.fault.FilterField.{FilterField}
use Rattle.nostr_filter.specs.declared.fault.FilterField.TheVariants.{Object, Tag, Authors, Ids, Kinds, Limit, Since, Until}
use Rattle.nostr_filter.specs.declared.fault.FilterFault.{FilterFault}
use Rattle.nostr_filter.specs.declared.fault.FilterFault.TheVariants.{Shape, Hex, Memory}
use Rattle.nostr_filter.specs.Tags.{letters, tag_name}
pub use Rattle.nostr_event.specs.EventJson.{first_failing}

-- ---- what a field's value reads as

-- each item as p reads it, if it reads each
abbrev pub each_item : {X : Type 0} → (Data → Option X) → Items → Option (List X)
each_item p no_items = Some []
each_item p (item d ds) = option_and_then (λ x. option_map (λ xs. x ∷ xs) (each_item p ds)) (p d)

-- an array of strings
abbrev pub texts_of : Data → Option (List (List ℕ))
texts_of d = option_and_then (each_item as_str) (as_array d)

-- a number 0 to 65535
abbrev pub kind_of : Data → Option ℕ
kind_of d = option_and_then (λ n. if nat_lt n (2 ^ 16) then Some n else None) (option_and_then as_u64 (as_number d))

-- an array of such numbers
abbrev pub kinds_of : Data → Option (List ℕ)
kinds_of d = option_and_then (each_item kind_of) (as_array d)

-- a whole number below 2^64
abbrev pub whole_of : Data → Option ℕ
whole_of d = option_and_then as_u64 (as_number d)

-- a field that may be missing: None where its value is of another shape, Some None where it is missing
abbrev pub optional : {X : Type 0} → (Data → Option X) → Option Data → Option (Option X)
optional p None = Some None
optional p (Some d) = option_map Some (p d)

abbrev pub field : {X : Type 0} → (Data → Option X) → List ℕ → Data → Option (Option X)
field p name d = optional p (get name d)

abbrev pub with_condition : ℕ → Option (List (List ℕ)) → List TagCondition → List TagCondition
with_condition x None cs = cs
with_condition x (Some values) cs = record { letter = x; values = values } ∷ cs

-- the conditions of the letters xs
abbrev pub conditions_of : List ℕ → Data → Option (List TagCondition)
conditions_of [] d = Some []
conditions_of (x ∷ xs) d = option_and_then (λ values. option_map (with_condition x values) (conditions_of xs d)) (field texts_of (tag_name x) d)

-- the texts of some bytes, in lower-case hexadecimal digits
abbrev pub hex_texts : List (List ℕ) → List (List ℕ)
hex_texts values = map encode_lower values

abbrev pub All32 : Option (List (List ℕ)) → Type 0
All32 values = IfSome values (All (IsBytesOf 32))

abbrev pub AllKinds : Option (List ℕ) → Type 0
AllKinds kinds = IfSome kinds (All (λ k. k < 2 ^ 16))

-- d reads as the filter f
pub record Reads (d : Data) (f : Filter) : Type 0 where
  pub object : is_some (as_object d) ≡ true
  pub tags : conditions_of letters d ≡ Some f.tags
  pub authors : field texts_of (codes "authors") d ≡ Some (option_map hex_texts f.authors)
  pub ids : field texts_of (codes "ids") d ≡ Some (option_map hex_texts f.ids)
  pub kinds : field kinds_of (codes "kinds") d ≡ Some f.kinds
  pub limit : field whole_of (codes "limit") d ≡ Some f.limit
  pub since : field whole_of (codes "since") d ≡ Some f.since
  pub until : field whole_of (codes "until") d ≡ Some f.until
  pub author_bytes : All32 f.authors
  pub id_bytes : All32 f.ids

-- ---- what each refusal says

-- the fields but the conditions on tags, each in its shape
pub record HasShapes (d : Data) (s : Shapes) : Type 0 where
  pub authors : field texts_of (codes "authors") d ≡ Some (option_map hex_texts s.authors)
  pub ids : field texts_of (codes "ids") d ≡ Some (option_map hex_texts s.ids)
  pub kinds : field kinds_of (codes "kinds") d ≡ Some s.kinds
  pub limit : field whole_of (codes "limit") d ≡ Some s.limit
  pub since : field whole_of (codes "since") d ≡ Some s.since
  pub until : field whole_of (codes "until") d ≡ Some s.until
  pub author_bytes : All32 s.authors
  pub id_bytes : All32 s.ids

-- the tests of the conditions of the letters xs
abbrev pub tag_tests : List ℕ → Data → List (FilterField × Bool)
tag_tests xs d = map (λ x. (Tag x, is_some (field texts_of (tag_name x) d))) xs

abbrev pub named_tests : Data → List (FilterField × Bool)
named_tests d =
    (Authors, is_some (field texts_of (codes "authors") d)) ∷ (Ids, is_some (field texts_of (codes "ids") d))
    ∷ (Kinds, is_some (field kinds_of (codes "kinds") d)) ∷ (Limit, is_some (field whole_of (codes "limit") d))
    ∷ (Since, is_some (field whole_of (codes "since") d)) ∷ (Until, is_some (field whole_of (codes "until") d)) ∷ []

-- the shapes of the fields, in the byte order of their names
abbrev pub shape_tests : Data → List (FilterField × Bool)
shape_tests d = (Object, is_some (as_object d)) ∷ (tag_tests letters d ++ named_tests d)

-- the field is missing, or its texts spell 32 bytes each in 64 lower-case hexadecimal digits
abbrev pub IsHexAt : List ℕ → Data → Type 0
IsHexAt name d = (values : Option (List (List ℕ))) × All32 values × (field texts_of name d ≡ Some (option_map hex_texts values))

-- the value is such a text
abbrev pub IsHex : Data → Type 0
IsHex d = (bytes : List ℕ) × IsBytesOf 32 bytes × (as_str d ≡ Some (encode_lower bytes))

-- each item is one
abbrev pub AreHex : Items → Type 0
AreHex ds = (values : List (List ℕ)) × All (IsBytesOf 32) values × (each_item as_str ds ≡ Some (hex_texts values))

-- the first field, in the byte order of the names, with another text
abbrev pub IsFirstNotHex : Data → FilterField → Type 0
IsFirstNotHex d Object = ⊥
IsFirstNotHex d (Tag x) = ⊥
IsFirstNotHex d Authors = ¬ IsHexAt (codes "authors") d
IsFirstNotHex d Ids = IsHexAt (codes "authors") d × ¬ IsHexAt (codes "ids") d
IsFirstNotHex d Kinds = ⊥
IsFirstNotHex d Limit = ⊥
IsFirstNotHex d Since = ⊥
IsFirstNotHex d Until = ⊥

-- all tests are passed
abbrev pub Passes : Data → Type 0
Passes d = (first_failing (shape_tests d) ≡ None) × IsHexAt (codes "authors") d × IsHexAt (codes "ids") d

-- the fault f is the first that d has; want of memory is told only where there is none
abbrev pub Refuses : Data → FilterFault → Type 0
Refuses d (Shape f) = first_failing (shape_tests d) ≡ Some f
Refuses d (Hex f) = (first_failing (shape_tests d) ≡ None) × IsFirstNotHex d f
Refuses d Memory = Passes d

-- ---- what is written

abbrev pub texts_data : List (List ℕ) → Data
texts_data texts = array (items_of (map string texts))

abbrev pub hex_data : List (List ℕ) → Data
hex_data values = array (items_of (map (λ bytes. string (encode_lower bytes)) values))

abbrev pub kinds_data : List ℕ → Data
kinds_data kinds = array (items_of (map (λ k. number (unsigned k)) kinds))

abbrev pub whole_data : ℕ → Data
whole_data n = number (unsigned n)

-- the members, with the value at the name if it is given
abbrev pub put_given : List ℕ → Option Data → Members → Members
put_given name None ms = ms
put_given name (Some d) ms = put name d ms

abbrev pub put_conditions : List TagCondition → Members → Members
put_conditions [] ms = ms
put_conditions (c ∷ cs) ms = put (tag_name c.letter) (texts_data c.values) (put_conditions cs ms)

abbrev pub named_members : Filter → Members
named_members f =
    put_given (codes "authors") (option_map hex_data f.authors) (put_given (codes "ids") (option_map hex_data f.ids)
    (put_given (codes "kinds") (option_map kinds_data f.kinds) (put_given (codes "limit") (option_map whole_data f.limit)
    (put_given (codes "since") (option_map whole_data f.since) (put_given (codes "until") (option_map whole_data f.until) no_members)))))

-- the object of the fields given
abbrev pub object_of : Filter → Data
object_of f = object (put_conditions f.tags (named_members f))
