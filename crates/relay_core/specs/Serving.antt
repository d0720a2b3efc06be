-- What a client's text brings about.
use Rattle.std.specs.Prelude.{◌≡◌, ◌≢◌, ℕ, List, [], length, nat_lt, MatchBool, ◌⊎◌, Some, None, codes, false}
use Rattle.nostr_event.specs.EventView.{EventView}
use Rattle.nostr_wire.specs.declared.fault.WireFault.{WireFault}
use Rattle.nostr_wire.specs.declared.fault.WireFault.TheVariants as wire
use Rattle.nostr_wire.specs.declared.messages.FromClient.{FromClient}
use Rattle.nostr_wire.specs.declared.messages.FromClient.TheVariants as client
use Rattle.nostr_wire.specs.Forms.{Form, client_form, client_table}
use Rattle.nostr_wire.specs.Reading.{Reads, Refuses}
use Rattle.relay_core.specs.declared.limits.RelayLimits.{RelayLimits}
use Rattle.relay_core.specs.Messages.{notice, okay}
use Rattle.relay_core.specs.Kept.{Kept, without_sub, without_session}
use Rattle.relay_core.specs.Turns.{Turn, says, says_one}
use Rattle.relay_core.specs.Requests.{Requests}
use Rattle.relay_core.specs.Sessions.{Opens, GoesOn}

-- what is said of a text that is no message; of a bad event with its id, where that can be read
abbrev pub refusal : WireFault → Form
refusal (wire.Event f (Some id)) = okay id false (codes "invalid: bad event")
refusal (wire.Event f None) = notice (codes "invalid: bad message")
refusal _ = notice (codes "invalid: bad message")

-- what the event of a client brings about: it is to be stored, unless events are refused
abbrev pub Takes : RelayLimits → EventView → Kept → Turn → Type 0
Takes limits e t turn =
    MatchBool limits.is_read_only
    (turn ≡ says_one (okay e.id false (codes "blocked: this relay takes no events")) t)
    (turn ≡ record { out = []; store = Some e; kept = t })

-- what a message brings about, where these events are published
abbrev pub Brings : RelayLimits → List EventView → Kept → FromClient → Turn → Type 0
Brings limits events t (client.Event e) turn = Takes limits e.value t turn
Brings limits events t (client.Req name filters) turn = Requests limits events name filters t turn
Brings limits events t (client.Close name) turn = turn ≡ says [] (without_sub name t)
Brings limits events t (client.NegOpen name filter query) turn = Opens limits events name filter query t turn
Brings limits events t (client.NegMsg name query) turn = GoesOn limits name query t turn
Brings limits events t (client.NegClose name) turn = turn ≡ says [] (without_session name t)

-- the text is a message, which brings about the turn; or it isn't, and its fault is told
abbrev pub IsServed : RelayLimits → List EventView → List ℕ → Kept → Turn → Type 0
IsServed limits events text t turn =
    ((m : FromClient) × Reads client_table text (client_form m) × Brings limits events t m turn)
    ⊎ ((f : WireFault) × (f ≢ wire.Memory) × Refuses client_table text f × (turn ≡ says_one (refusal f) t))

-- a text of too many bytes isn't read
abbrev pub Serves : RelayLimits → List EventView → List ℕ → Kept → Turn → Type 0
Serves limits events text t turn =
    MatchBool (nat_lt limits.text (length text))
    (turn ≡ says_one (notice (codes "invalid: message too long")) t)
    (IsServed limits events text t turn)
