-- What the lines of a file of events tell.
use Rattle.std.specs.Prelude.{IsUtf8, ◌≡◌, ◌⊎◌, ◌≢◌, ℕ, zero, suc, false, List, [], ◌∷◌, length, Some}
use Rattle.serde_json.specs.Data.{Data}
use Rattle.serde_json.specs.Read.{read}
use Rattle.nostr_event.specs.EventView.{EventView}
use Rattle.nostr_event.specs.EventJson.{Reads}
use Rattle.mirror_run.specs.Lines.{lines_of}
use Rattle.event_log.specs.Text.{text_of}
use Rattle.event_table.specs.Events.{has_id, with_event}

-- the line is the JSON of this event
abbrev pub IsEventOf : List ℕ → EventView → Type 0
IsEventOf line e = IsUtf8 line × ((json : Data) × (read line ≡ Some json) × Reads json e)

-- an empty line changes nothing, any other holds an event
abbrev pub LineTells : List ℕ → List EventView → List EventView → Type 0
LineTells [] old new = new ≡ old
LineTells (b ∷ bs) old new = (e : EventView) × IsEventOf (b ∷ bs) e × (new ≡ with_event e old)

-- the lines lead from one list of events to another
abbrev pub LinesTell : List (List ℕ) → List EventView → List EventView → Type 0
LinesTell [] old new = new ≡ old
LinesTell (line ∷ lines) old new = (next : List EventView) × LineTells line old next × LinesTell lines next new

-- the line holds no event, or a new one for which there is no room
abbrev pub IsWrong : ℕ → List ℕ → List EventView → Type 0
IsWrong most line old = (line ≢ []) × (((e : EventView) → ¬ IsEventOf line e) ⊎ ((e : EventView) × IsEventOf line e × (has_id e.id old ≡ false) × (length old ≡ most)))

-- behind n lines that tell something, the next is wrong
abbrev pub WrongBehind : ℕ → ℕ → List (List ℕ) → List EventView → List EventView → Type 0
WrongBehind most n [] old new = ⊥
WrongBehind most zero (line ∷ lines) old new = IsWrong most line old × (new ≡ old)
WrongBehind most (suc n) (line ∷ lines) old new = (next : List EventView) × LineTells line old next × WrongBehind most n lines next new

-- the first lines hold these events, one each, and these lines are left
abbrev pub HoldEvents : List (List ℕ) → List EventView → List (List ℕ) → Type 0
HoldEvents lines [] rest = rest ≡ lines
HoldEvents [] (e ∷ events) rest = ⊥
HoldEvents (line ∷ lines) (e ∷ events) rest = (line ≢ []) × IsEventOf line e × HoldEvents lines events rest

-- the text is that of the events which its lines hold
abbrev pub IsPlain : List ℕ → Type 0
IsPlain text = (events : List EventView) × HoldEvents (lines_of text) events [] × (text ≡ text_of events)
