-- What a subscription asks for, and what it brings.
use Rattle.std.specs.Prelude.{◌≡◌, ⊤, ℕ, List, [], ◌∷◌, codes}
use Rattle.nostr_filter.specs.declared.filter.Filter.{Filter}
use Rattle.nostr_wire.specs.declared.messages.FromClient.TheVariants as client
use Rattle.nostr_wire.specs.declared.messages.FromRelay.{FromRelay}
use Rattle.nostr_wire.specs.Forms.{Form, client_form, event_form, relay_form}
use Rattle.nostr_wire.specs.Writing.{text_of}
use Rattle.wire.specs.Line.{Talk}
use Rattle.wire.specs.Talk.{Says}
use Rattle.ws_link.specs.declared.live.Brought.{Brought}
use Rattle.ws_link.specs.declared.live.Part.{Part}
use Rattle.ws_link.specs.Spoken.{HearsMessage, IsClient}

-- the name of the subscription
abbrev pub live : List ℕ
live = codes "live"

-- the message that asks for what the filter matches
abbrev pub requesting : Filter → Form
requesting filter = client_form (client.Req live (filter ∷ []))

-- a client's connection behind its handshake, over which nothing but this was said
abbrev pub Asked : Filter → Talk → Type 0
Asked filter talk = (first : Talk) × IsClient first × Says first talk (text_of (requesting filter))

-- an event is that of a message for the subscription
abbrev pub Tells : FromRelay → Part → Type 0
Tells message (Part.Event e) = relay_form message ≡ event_form live e.value
Tells message _ = ⊤

-- frames were read, and the last of them is or ends the message of the event, if one is told
abbrev pub MayTell : Talk → Talk → Part → Type 0
MayTell old new (Part.Event e) = HearsMessage old new (event_form live e.value)
MayTell old new _ = ⊤

-- the same of what is brought
abbrev pub Brings : Talk → Talk → Brought → Type 0
Brings old new (Brought.Event e) = HearsMessage old new (event_form live e.value)
Brings old new _ = ⊤
