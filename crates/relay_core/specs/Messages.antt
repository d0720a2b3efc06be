-- What a relay says (NIP-01, NIP-77), as forms of texts.
use Rattle.std.specs.Prelude.{ℕ, List, [], ◌∷◌, Bool, codes}
use Rattle.item_key.specs.declared.Id.{Id}
use Rattle.nostr_event.specs.EventView.{EventView}
use Rattle.nostr_wire.specs.Elements.{sub, event}
use Rattle.nostr_wire.specs.Forms.{Form, relay_form}
use Rattle.nostr_wire.specs.declared.messages.FromRelay.TheVariants.{Okay, Eose, Closed, Notice, NegMsg, NegErr}

-- an event that the subscription asks for
abbrev pub event_to : List ℕ → EventView → Form
event_to name e = record { name = codes "EVENT"; said = sub name ∷ event e ∷ [] }

abbrev pub okay : Id → Bool → List ℕ → Form
okay id taken text = relay_form (Okay id taken text)

abbrev pub all_sent : List ℕ → Form
all_sent name = relay_form (Eose name)

abbrev pub closed : List ℕ → List ℕ → Form
closed name text = relay_form (Closed name text)

abbrev pub notice : List ℕ → Form
notice text = relay_form (Notice text)

abbrev pub answered : List ℕ → List ℕ → Form
answered name message = relay_form (NegMsg name message)

abbrev pub ended : List ℕ → List ℕ → Form
ended name reason = relay_form (NegErr name reason)
