-- The elements of an array, read one after another from the tokens of a text.
use Rattle.std.specs.Prelude.{◌≡◌, ℕ, ◌≤◌, List, length, map, true, false, Option, None}
use Rattle.json.specs.Token.{Token}
use Rattle.json.specs.Json.{items, value}
use Rattle.serde_json.specs.Data.{Data}
use Rattle.serde_json.specs.Read.{of_items, converted}
use Rattle.nostr_filter.specs.declared.filter.Filter.{Filter}
use Rattle.event_text.specs.Tokens.{Gives as GivesAt}
use Rattle.nostr_wire.specs.declared.streaming.Few.{Few}
use Rattle.nostr_wire.specs.declared.streaming.Few.TheVariants.{Kept, NoFilter, NoObject}
use Rattle.nostr_wire.specs.declared.fault.WireFault.{WireFault}
use Rattle.nostr_wire.specs.Elements.{Part, an_event, a_filter, filter, has_type, SaysNo, IsFaultOf}
use Rattle.nostr_wire.specs.Reading.{kept_filters, AreRead, fits, IsFirstFault}

-- the tokens give the elements of an array up to its end, and these tokens are left behind it
abbrev pub Gives : List Token → List Data → List Token → Type 0
Gives ts ds rest = GivesAt 126 ts ds rest

-- they give none
abbrev pub GivesNone : List Token → Type 0
GivesNone ts = (n : ℕ) → length ts ≤ n → converted of_items (items (value 126) n ts) ≡ None

-- each element is to be a filter
abbrev pub filter_parts : List Data → List Part
filter_parts ds = map (λ d. a_filter) ds

-- what is known of the elements ds, which are to be filters
abbrev pub Stand : Option ℕ → Few → List Data → Type 0
Stand most (Kept fs) ds = (all : List Filter) × (fs.items ≡ kept_filters most all) × AreRead (filter_parts ds) (map filter all) ds × (fits (filter_parts ds) ds ≡ true)
Stand most NoFilter ds = (fits (filter_parts ds) ds ≡ true) × IsFirstFault (filter_parts ds) ds WireFault.Filter
Stand most NoObject ds = fits (filter_parts ds) ds ≡ false

-- the object d is no event, and has this fault
abbrev pub IsNoEvent : Data → WireFault → Type 0
IsNoEvent d f = (has_type an_event d ≡ true) × SaysNo an_event d × IsFaultOf an_event d f
