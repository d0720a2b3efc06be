-- The messages, each by its name and what stands behind it (NIP-01, NIP-77).
use Rattle.std.specs.Prelude.{ℕ, Bool, List, [], ◌∷◌, map, drop, codes}
use Rattle.item_key.specs.declared.Id.{Id}
use Rattle.serde_json.specs.Data.{Data}
use Rattle.nostr_event.specs.EventView.{EventView}
use Rattle.nostr_wire.specs.declared.messages.FromClient.{FromClient}
use Rattle.nostr_wire.specs.declared.messages.FromClient.TheVariants as client
use Rattle.nostr_wire.specs.declared.messages.FromRelay.{FromRelay}
use Rattle.nostr_wire.specs.declared.messages.FromRelay.TheVariants as relay
use Rattle.nostr_wire.specs.Elements.{Part, a_sub, a_text, a_flag, an_id, some_hex, an_event, a_filter, Said, sub, text, flag, id, hex, event, filter}

-- a message's name, and what the elements behind it say
pub record Form : Type 0 where
  pub name : List ℕ
  pub said : List Said

abbrev pub client_form : FromClient → Form
client_form (client.Event e) = record { name = codes "EVENT"; said = event e.value ∷ [] }
client_form (client.Req s fs) = record { name = codes "REQ"; said = sub s ∷ map filter fs }
client_form (client.Close s) = record { name = codes "CLOSE"; said = sub s ∷ [] }
client_form (client.NegOpen s f m) = record { name = codes "NEG-OPEN"; said = sub s ∷ filter f ∷ hex m ∷ [] }
client_form (client.NegMsg s m) = record { name = codes "NEG-MSG"; said = sub s ∷ hex m ∷ [] }
client_form (client.NegClose s) = record { name = codes "NEG-CLOSE"; said = sub s ∷ [] }

-- an event for the subscription of that name
abbrev pub event_form : List ℕ → EventView → Form
event_form s e = record { name = codes "EVENT"; said = sub s ∷ event e ∷ [] }

-- whether the event of that id was taken, and why
abbrev pub okay_form : Id → Bool → List ℕ → Form
okay_form i taken t = record { name = codes "OK"; said = id i ∷ flag taken ∷ text t ∷ [] }

abbrev pub relay_form : FromRelay → Form
relay_form (relay.Event s e) = event_form s e.value
relay_form (relay.Okay i taken t) = okay_form i taken t
relay_form (relay.Eose s) = record { name = codes "EOSE"; said = sub s ∷ [] }
relay_form (relay.Closed s t) = record { name = codes "CLOSED"; said = sub s ∷ text t ∷ [] }
relay_form (relay.Notice t) = record { name = codes "NOTICE"; said = text t ∷ [] }
relay_form (relay.NegMsg s m) = record { name = codes "NEG-MSG"; said = sub s ∷ hex m ∷ [] }
relay_form (relay.NegErr s t) = record { name = codes "NEG-ERR"; said = sub s ∷ text t ∷ [] }

-- ---- the tables of names and what must stand behind each; further elements are passed over

abbrev pub Table : Type 0
Table = List (List ℕ × List Part)

-- In a REQ each element behind the name of the subscription is a filter, and at least one is needed.
abbrev pub request_parts : List Data → List Part
request_parts ds = a_sub ∷ a_filter ∷ map (λ d. a_filter) (drop 2 ds)

-- what a client may say, where the elements ds stand behind the name
abbrev pub client_table : List Data → Table
client_table ds =
    (codes "EVENT", an_event ∷ []) ∷ (codes "REQ", request_parts ds) ∷ (codes "CLOSE", a_sub ∷ [])
    ∷ (codes "NEG-OPEN", a_sub ∷ a_filter ∷ some_hex ∷ []) ∷ (codes "NEG-MSG", a_sub ∷ some_hex ∷ [])
    ∷ (codes "NEG-CLOSE", a_sub ∷ []) ∷ []

-- what a relay may say
abbrev pub relay_table : List Data → Table
relay_table ds =
    (codes "EVENT", a_sub ∷ an_event ∷ []) ∷ (codes "OK", an_id ∷ a_flag ∷ a_text ∷ []) ∷ (codes "EOSE", a_sub ∷ [])
    ∷ (codes "CLOSED", a_sub ∷ a_text ∷ []) ∷ (codes "NOTICE", a_text ∷ []) ∷ (codes "NEG-MSG", a_sub ∷ some_hex ∷ [])
    ∷ (codes "NEG-ERR", a_sub ∷ a_text ∷ []) ∷ []
