-- What one message brings about.
use Rattle.std.specs.Prelude.{List, [], ◌∷◌, map, Option, None, option_map}
use Rattle.std.specs.Arc.{arc_value}
use Rattle.nostr_event.specs.EventView.{EventView}
use Rattle.nostr_wire.specs.Forms.{Form, relay_form}
use Rattle.relay_core.specs.Kept.{Kept}
use Rattle.relay_core.specs.declared.step.Step.{Step}

-- what is sent, the event that is to be stored, and what is kept then
pub record Turn : Type 0 where
  pub out : List Form
  pub store : Option EventView
  pub kept : Kept

abbrev pub turn_of : Step → Kept → Turn
turn_of s t = record { out = map relay_form s.out.items; store = option_map arc_value s.store; kept = t }

-- nothing is stored
abbrev pub says : List Form → Kept → Turn
says out t = record { out = out; store = None; kept = t }

-- one message is sent, and nothing is stored
abbrev pub says_one : Form → Kept → Turn
says_one m t = says (m ∷ []) t
