-- Events that came together, and are still to be answered.
use Rattle.std.specs.Prelude.{◌≡◌, ◌⊎◌, ⊤, ℕ, List, [], ◌∷◌, ◌++◌, map, Option, None, Some, Result, Ok, Err}
use mathlib.Core.List.{IsPrefix}
use Rattle.item_key.specs.declared.Id.{Id}
use Rattle.nostr_event.specs.EventView.{EventView}
use Rattle.nostr_wire.specs.Forms.{Form}
use Rattle.relay_core.specs.declared.limits.RelayLimits.{RelayLimits}
use Rattle.relay_core.specs.Kept.{Kept, Connection as Conn}
use Rattle.relay_core.specs.Serving.{Serves}
use Rattle.relay_core.specs.Turns.{says}
use Rattle.websocket.specs.Connection.{Connection}
use Rattle.wire.specs.declared.heard.Heard.{Heard}
use Rattle.ws_socket.specs.declared.fault.LinkFault.{LinkFault}
use Rattle.ws_serve.specs.Answering.{TellsOf}
use Rattle.ws_serve.specs.Frames.{spoken, spoken_one}
use Rattle.ws_serve.specs.Pieces.{Asked, words, Standing}
use Rattle.ws_serve.specs.Served.{put_back, Talks, IsServing, Serving, Served}
use Rattle.ws_serve.specs.Steps.{Asks, Awaits, SaysSome}
use Rattle.ws_serve.specs.Traffic.{Traffic, Says, MaySay}

abbrev pub ids_of : List EventView → List Id
ids_of events = map (λ (e : EventView). e.id) events

-- the first of these
abbrev pub Follow : List Id → List Id → Type 0
Follow [] ids = ⊤
Follow (x ∷ xs) [] = ⊥
Follow (x ∷ xs) (id ∷ ids) = (x ≡ id) × Follow xs ids

-- what became of each event of these ids, in order
abbrev pub AreTold : List Id → List Form → Type 0
AreTold [] [] = ⊤
AreTold [] (m ∷ ms) = ⊥
AreTold (id ∷ ids) [] = ⊥
AreTold (id ∷ ids) (m ∷ ms) = TellsOf id m × AreTold ids ms

-- the frames of that were put there, or a beginning of them
abbrev pub SaysOfAll : List Id → Traffic → Traffic → Type 0
SaysOfAll ids old new = (forms : List Form) × AreTold ids forms × Says old new (spoken forms)

abbrev pub SaysOfSome : List Id → Traffic → Traffic → Type 0
SaysOfSome ids old new = (forms : List Form) × AreTold ids forms × SaysSome old new (spoken forms)

-- the same for one event
abbrev pub MaySayOf : Id → Traffic → Traffic → Type 0
MaySayOf id old new = (m : Form) × TellsOf id m × MaySay old new (spoken_one m)

-- The text is an event that is to be stored, whatever is published and kept.
abbrev pub Stores : RelayLimits → List ℕ → EventView → Type 0
Stores limits text e =
    (events : List EventView) (kept : Kept) → Serves limits events text kept (record { out = []; store = Some e; kept = kept })

abbrev pub AreStored : RelayLimits → List (List ℕ) → List EventView → Type 0
AreStored limits [] [] = ⊤
AreStored limits [] (e ∷ events) = ⊥
AreStored limits (text ∷ texts) [] = ⊥
AreStored limits (text ∷ texts) (e ∷ events) = Stores limits text e × AreStored limits texts events

-- The events' texts are pending, and behind them these messages.
pub record Gathers (events : List EventView) (pending : List Asked) (conn : Connection) (left : List ℕ) (c : Conn) (t : Traffic) (known : List EventView) : Type 0 where
  pub texts : List (List ℕ)
  pub stored : AreStored c.limits texts events
  pub serving : IsServing (map words texts ++ pending) conn left c t known

-- The last text is pending behind those of the events, and these are its answers.
pub record AnswersLast (events : List EventView) (out : List Form) (c : Conn) (t : Traffic) (known : List EventView) : Type 0 where
  pub texts : List (List ℕ)
  pub text : List ℕ
  pub stored : AreStored c.limits texts events
  pub last : Standing
  pub now : List EventView
  pub kept : Kept
  pub talks : Talks c.limits t.conn t.left (map words texts ++ words text ∷ put_back t) last t.given t.said
  pub behind : IsPrefix last.events now
  pub serves : Serves c.limits now text last.kept (says out kept)
  pub keeps : c.kept ≡ Some kept
  pub before : IsPrefix now known

-- nothing else came behind the events than what was heard
abbrev pub Gathered : List EventView → Result (Option Heard) LinkFault → List Form → List ℕ → Conn → Traffic → List EventView → Type 0
Gathered events (Ok None) out bs c t known =
    ((out ≡ []) × Gathers events (put_back t) t.conn t.left c t known) ⊎ AnswersLast events out c t known
Gathered events (Ok (Some h)) out bs c t known =
    (out ≡ []) × ((pending : List Asked) × Asks t.conn.role h bs pending × Gathers events (pending ++ put_back t) t.conn t.left c t known)
Gathered events (Err f) out bs c t known =
    (out ≡ []) × ((pending : List Asked) × (conn : Connection) × (left : List ℕ) × Gathers events pending conn left c t known)

-- All is answered but what was heard.
abbrev pub IsAwaited : Result (Option Heard) LinkFault → List ℕ → Conn → Traffic → List EventView → Type 0
IsAwaited (Ok None) bs c t known = Serving [] c t known
IsAwaited (Ok (Some h)) bs c t known = Awaits h bs c t known
IsAwaited (Err f) bs c t known = Served c t known
