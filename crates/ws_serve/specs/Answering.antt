-- What is said to a text.
use Rattle.std.specs.Prelude.{◌≡◌, ◌⊎◌, ℕ, List, [], ◌∷◌, ◌++◌, Bool, false, Option, Some, None, codes}
use mathlib.Core.List.{IsPrefix}
use Rattle.item_key.specs.declared.Id.{Id}
use Rattle.nostr_event.specs.EventView.{EventView}
use Rattle.nostr_wire.specs.Forms.{Form}
use Rattle.relay_core.specs.declared.limits.RelayLimits.{RelayLimits}
use Rattle.relay_core.specs.Due.{due}
use Rattle.relay_core.specs.Kept.{Kept}
use Rattle.relay_core.specs.Messages.{okay}
use Rattle.relay_core.specs.Serving.{Serves}
use Rattle.relay_core.specs.Stored.{placed_answer}
use Rattle.relay_core.specs.Turns.{Turn}
use Rattle.ws_serve.specs.Frames.{spoken}
use Rattle.ws_serve.specs.Traffic.{Traffic, Says}

-- the event of this id is in the store and kept there, or it is told why not
abbrev pub TellsOf : Id → Form → Type 0
TellsOf id m =
    ((fresh : Bool) × (m ≡ placed_answer id fresh)) ⊎ (m ≡ okay id false (codes "error: the store is full"))
    ⊎ (m ≡ okay id false (codes "error: out of memory")) ⊎ (m ≡ okay id false (codes "error: the events file can't be written"))

-- what a turn says, and then, if it has an event to be stored, what became of that
abbrev pub SaysAfter : List Form → Option EventView → List Form → Type 0
SaysAfter out None forms = forms ≡ out
SaysAfter out (Some e) forms = (m : Form) × TellsOf e.id m × (forms ≡ out ++ m ∷ [])

-- the answers to a text, where these events are published
abbrev pub Answers : RelayLimits → List EventView → List ℕ → Kept → List Form → Kept → Type 0
Answers limits events text old forms new =
    (turn : Turn) × Serves limits events text old turn × SaysAfter turn.out turn.store forms × (new ≡ turn.kept)

-- The same, where the events published at that moment are not known, but began with `before` and are the beginning of `after`.
abbrev pub AnswersBetween : RelayLimits → (before after : List EventView) → List ℕ → Kept → List Form → Kept → Type 0
AnswersBetween limits before after text old forms new =
    (events : List EventView) × IsPrefix before events × IsPrefix events after × Answers limits events text old forms new

-- the frames of these answers were put behind what was there, and nothing else
abbrev pub SaysAnswers : RelayLimits → (before after : List EventView) → List ℕ → (said now : Traffic) → Kept → Kept → Type 0
SaysAnswers limits before after text said now old new =
    (forms : List Form) × AnswersBetween limits before after text old forms new × Says said now (spoken forms)

-- the frame of what became of the event was put there
abbrev pub SaysOf : Id → (said now : Traffic) → Type 0
SaysOf id said now = (m : Form) × TellsOf id m × Says said now (spoken (m ∷ []))

-- The frames of what was due were put there, and nothing is lost or repeated by that: where these events are published, or more behind
-- them, what was due is what was said and what is due then.
abbrev pub SaysDue : List EventView → (said now : Traffic) → Kept → Kept → Type 0
SaysDue events said now old new =
    (forms : List Form) × Says said now (spoken forms) × ((more : List EventView) → IsPrefix events more → due old.subs more ≡ forms ++ due new.subs more)

-- an open connection goes on so, and a closed one stays closed
abbrev pub IfOpen : (Kept → Kept → Type 0) → Option Kept → Option Kept → Type 0
IfOpen R (Some old) (Some new) = R old new
IfOpen R (Some old) None = ⊥
IfOpen R None new = new ≡ None
