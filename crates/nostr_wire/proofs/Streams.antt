-- Elements read one after another.
use Rattle.std.proofs.Common.{◌≡◌, ℕ, ◌-◌, ◌<◌, List, [], ◌∷◌, ◌++◌, length, Some, None, sym, ap, ◌∙◌, subst, append_assoc, arith}
use Rattle.json.specs.Token.{Token, begin_array}
use Rattle.json.specs.Lex.{tokens}
use Rattle.json.specs.Json.{parse_map, after_end_array, items, value}
use Rattle.json.proofs.Grammar.{value-begin_array}
use Rattle.serde_json.specs.Data.{Data, array, item}
use Rattle.serde_json.specs.Read.{of_json, of_items, converted, read}
use Rattle.serde_json.specs.View.{items_of}
use Rattle.nostr_wire.specs.Stream.{Gives, GivesNone}
use Rattle.event_text.proofs.Texts.{end_gives as end_gives_at, one_gives as one_gives_at}
use Rattle.event_text.proofs.Turns.{converted-array, item_read, item_refused, whole_read, whole_and_more, whole_refused}

-- an array's end gives no element
pub end_gives : (ts r : List Token) → after_end_array ts ≡ Some r → Gives ts [] r
end_gives ts r over = end_gives_at 126 ts r over

-- an element, and those behind it
pub one_gives : (ts r : List Token) (d : Data) → after_end_array ts ≡ None → converted of_json (value 126 ts) ≡ Some (d, r) → length r < length ts
    → (ds : List Data) (rest : List Token) → Gives r ds rest → Gives ts (d ∷ ds) rest
one_gives ts r d going found less ds rest more = one_gives_at 126 ts r d going found less ds rest more

pub one_gives_none : (ts r : List Token) (d : Data) → after_end_array ts ≡ None → converted of_json (value 126 ts) ≡ Some (d, r) → length r < length ts → GivesNone r → GivesNone ts
one_gives_none ts r d going found less none n enough =
    item_read (value 126) n ts r d (omega (arith, less, enough)) going found ∙ ap (parse_map (item d)) (none (n - 1) (omega (arith, less, enough)))

-- what is no value gives none
pub refused_gives_none : (ts : List Token) → after_end_array ts ≡ None → converted of_json (value 126 ts) ≡ None → GivesNone ts
refused_gives_none ts going refused n enough = item_refused (value 126) n ts going refused

-- ---- a turn of a loop that began at `first`

pub turn_gives : (first ts r : List Token) (ds : List Data) (d : Data) → after_end_array ts ≡ None → converted of_json (value 126 ts) ≡ Some (d, r) → length r < length ts
    → ((more : List Data) (rest : List Token) → Gives ts more rest → Gives first (ds ++ more) rest) → (more : List Data) (rest : List Token) → Gives r more rest → Gives first ((ds ++ d ∷ []) ++ more) rest
turn_gives first ts r ds d going found less before more rest gives =
    subst (λ l. Gives first l rest) (sym (append_assoc ds (d ∷ []) more)) (before (d ∷ more) rest (one_gives ts r d going found less more rest gives))

-- ---- the whole text

opened : (text : List ℕ) (ts : List Token) → tokens text ≡ begin_array ∷ ts → converted of_json (value 127 (tokens text)) ≡ parse_map array (converted of_items (items (value 126) (length ts) ts))
opened text ts begins = ap (λ l. converted of_json (value 127 l)) begins ∙ ap (converted of_json) (value-begin_array 127 ts (omega arith)) ∙ converted-array (items (value 126) (length ts) ts)

pub array_read : (text : List ℕ) (ts : List Token) (ds : List Data) → tokens text ≡ begin_array ∷ ts → Gives ts ds [] → read text ≡ Some (array (items_of ds))
array_read text ts ds begins gives = whole_read (value 127 (tokens text)) (array (items_of ds)) (opened text ts begins ∙ ap (parse_map array) (gives (length ts) (omega arith)))

pub more_behind : (text : List ℕ) (ts : List Token) (ds : List Data) (t : Token) (r : List Token) → tokens text ≡ begin_array ∷ ts → Gives ts ds (t ∷ r) → read text ≡ None
more_behind text ts ds t r begins gives = whole_and_more (value 127 (tokens text)) (array (items_of ds)) t r (opened text ts begins ∙ ap (parse_map array) (gives (length ts) (omega arith)))

pub none_read : (text : List ℕ) (ts : List Token) → tokens text ≡ begin_array ∷ ts → GivesNone ts → read text ≡ None
none_read text ts begins none = whole_refused (value 127 (tokens text)) (opened text ts begins ∙ ap (parse_map array) (none (length ts) (omega arith)))
