-- Which text is which message, and which fault another text has.
use Rattle.std.specs.Prelude.{⊤, ◌≡◌, ◌⊎◌, ◌&&◌, ℕ, ◌+◌, List, [], ◌∷◌, ◌++◌, length, map, take, drop, Bool, true, false, if◌then◌else◌, Option, Some, None, option_map, nat_le, option_and_then, unwrap_or, bytes_eq}
use Rattle.serde_json.specs.Data.{Data, Items, no_items, item}
use Rattle.serde_json.specs.Find.{as_str, as_array}
use Rattle.serde_json.specs.Read.{read}
use Rattle.nostr_filter.specs.declared.filter.Filter.{Filter}
use Rattle.nostr_wire.specs.declared.fault.WireFault.{WireFault}
use Rattle.nostr_wire.specs.declared.messages.FromClient.{FromClient}
use Rattle.nostr_wire.specs.declared.messages.FromClient.TheVariants as client
use Rattle.nostr_wire.specs.Elements.{Part, Said, part_of, has_type, Says, SaysNo, IsFaultOf}
use Rattle.nostr_wire.specs.Forms.{Form, Table, client_form, client_table}

-- ---- an array's elements

abbrev pub list_of : Items → List Data
list_of no_items = []
list_of (item d ds) = d ∷ list_of ds

abbrev pub elements : Data → List Data
elements d = unwrap_or (option_map list_of (as_array d)) []

abbrev pub text_first : List Data → Option (List ℕ)
text_first [] = None
text_first (d ∷ ds) = as_str d

-- the first element of an array, if it is a string
abbrev pub name_in : Data → Option (List ℕ)
name_in d = text_first (elements d)

-- the elements behind the first
abbrev pub behind_name : Data → List Data
behind_name d = drop 1 (elements d)

-- ---- the table's row

abbrev pub row_of : List ℕ → Table → Option (List Part)
row_of name [] = None
row_of name (r ∷ rs) = if bytes_eq r.0 name then Some r.1 else row_of name rs

-- what must stand behind the name in the array d, if the name is in the table
abbrev pub expected : (List Data → Table) → Data → Option (List Part)
expected table d = option_and_then (λ name. row_of name (table (behind_name d))) (name_in d)

-- ---- messages

-- the first values say these things
abbrev pub SayEach : List Said → List Data → Type 0
SayEach [] ds = ⊤
SayEach (x ∷ xs) [] = ⊥
SayEach (x ∷ xs) (d ∷ ds) = Says d x × SayEach xs ds

-- these things are of these parts, and the first values say them
abbrev pub AreRead : List Part → List Said → List Data → Type 0
AreRead ps xs ds = (map part_of xs ≡ ps) × SayEach xs ds

-- the array d is the message m of the table
pub record IsMessage (table : List Data → Table) (d : Data) (m : Form) : Type 0 where
  pub name : name_in d ≡ Some m.name
  pub parts : expected table d ≡ Some (map part_of m.said)
  pub said : SayEach m.said (behind_name d)

-- the text is the message m of the table
abbrev pub Reads : (List Data → Table) → List ℕ → Form → Type 0
Reads table text m = (d : Data) × (read text ≡ Some d) × IsMessage table d m

-- ---- faults, in the order of their numbers

-- each part has its element, of its JSON type
abbrev pub fits : List Part → List Data → Bool
fits [] ds = true
fits (p ∷ ps) [] = false
fits (p ∷ ps) (d ∷ ds) = has_type p d && fits ps ds

-- The first element that says nothing of its part has the fault f. In each row of the tables the parts stand in the order
-- of their faults' numbers.
abbrev pub IsFirstFault : List Part → List Data → WireFault → Type 0
IsFirstFault [] ds f = ⊥
IsFirstFault (p ∷ ps) [] f = ⊥
IsFirstFault (p ∷ ps) (d ∷ ds) f = (SaysNo p d × IsFaultOf p d f) ⊎ (((x : Said) × (part_of x ≡ p) × Says d x) × IsFirstFault ps ds f)

-- the elements aren't of these parts, and f is their first fault
abbrev pub AreRefused : List Part → List Data → WireFault → Type 0
AreRefused ps ds f = ((f ≡ WireFault.Arity) × (fits ps ds ≡ false)) ⊎ ((fits ps ds ≡ true) × IsFirstFault ps ds f)

-- the value d is no message of the table, and f is its first fault
abbrev pub IsRefused : (List Data → Table) → Data → WireFault → Type 0
IsRefused table d f = ((f ≡ WireFault.Kind) × (expected table d ≡ None)) ⊎ ((ps : List Part) × (expected table d ≡ Some ps) × AreRefused ps (behind_name d) f)

-- the text is no message of the table, and f is its first fault; or there was no memory
abbrev pub Refuses : (List Data → Table) → List ℕ → WireFault → Type 0
Refuses table text f = (f ≡ WireFault.Memory) ⊎ ((f ≡ WireFault.Json) × (read text ≡ None)) ⊎ ((d : Data) × (read text ≡ Some d) × IsRefused table d f)

-- ---- requests of many filters

-- the first filters, so many and one more; all where no number is said
abbrev pub kept_filters : Option ℕ → List Filter → List Filter
kept_filters None fs = fs
kept_filters (Some n) fs = take (n + 1) fs

-- one more filter is kept beside so many
abbrev pub keeps_more : Option ℕ → ℕ → Bool
keeps_more None count = true
keeps_more (Some n) count = nat_le count n

-- the filters with one more, if that is kept
abbrev pub with_filter : Option ℕ → List Filter → Filter → List Filter
with_filter most fs f = if keeps_more most (length fs) then fs ++ f ∷ [] else fs

-- the value d is what a client says, but that of a request's filters only these are kept
abbrev pub IsHeard : Option ℕ → Data → FromClient → Type 0
IsHeard most d (client.Req s fs) = (all : List Filter) × (fs ≡ kept_filters most all) × IsMessage client_table d (client_form (client.Req s all))
IsHeard most d (client.Event e) = IsMessage client_table d (client_form (client.Event e))
IsHeard most d (client.Close s) = IsMessage client_table d (client_form (client.Close s))
IsHeard most d (client.NegOpen s f m) = IsMessage client_table d (client_form (client.NegOpen s f m))
IsHeard most d (client.NegMsg s m) = IsMessage client_table d (client_form (client.NegMsg s m))
IsHeard most d (client.NegClose s) = IsMessage client_table d (client_form (client.NegClose s))

-- the text is what a client says, but for such filters
abbrev pub Hears : Option ℕ → List ℕ → FromClient → Type 0
Hears most text m = (d : Data) × (read text ≡ Some d) × IsHeard most d m
