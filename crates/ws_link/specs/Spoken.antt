-- Which questions were asked over a stream, and which answers it gave.
use Rattle.std.specs.Prelude.{◌≡◌, ℕ, List, [], ◌∷◌, Option, None, Some, codes}
use Rattle.neg_session.specs.Exchange.{Exchange}
use Rattle.nostr_filter.specs.declared.filter.Filter.{Filter}
use Rattle.nostr_wire.specs.declared.messages.FromClient.TheVariants as client
use Rattle.nostr_wire.specs.declared.messages.FromRelay.TheVariants as relay
use Rattle.nostr_wire.specs.Forms.{Form, client_form, relay_form}
use Rattle.nostr_wire.specs.Writing.{text_of}
use Rattle.websocket.specs.declared.protocol.config.Role.TheVariants.{Client}
use Rattle.websocket.specs.declared.protocol.config.WebSocketConfig.{WebSocketConfig}
use Rattle.wire.specs.Line.{Talk, fresh}
use Rattle.wire.specs.Talk.{Says, HearsText}
use Rattle.ws_link.specs.Messages.{IsOnly}
use Rattle.ws_link.specs.Wired.{Wired}
use mathlib.Core.List.{IsPrefix}

-- the name of a peer's session
abbrev pub mirror : List ℕ
mirror = codes "mirror"

-- the message of a question: the first one opens the session over the events that the filter matches (NIP-77)
abbrev pub asking : Option Filter → List ℕ → Form
asking (Some filter) question = client_form (client.NegOpen mirror filter question)
asking None question = client_form (client.NegMsg mirror question)

-- the message of an answer
abbrev pub answering : List ℕ → Form
answering answer = relay_form (relay.NegMsg mirror answer)

-- frames were read, and the last of them is or ends a text that is this message
abbrev pub HearsMessage : Talk → Talk → Form → Type 0
HearsMessage old new form = (words : List ℕ) × HearsText old new words × IsOnly form words

-- The stream took the frame of the question, and then frames were read, of which the last is or ends the answer's text.
abbrev pub Exchanged : Option Filter → Talk → Exchange → Talk → Type 0
Exchanged opens old e new =
    (mid : Talk) × Says old mid (text_of (asking opens e.asked)) × HearsMessage mid new (answering e.answered)

-- These exchanges followed one another. The first of them opens the session, if a filter is named.
abbrev pub Spoken : Option Filter → Talk → List Exchange → Talk → Type 0
Spoken opens old [] new = new ≡ old
Spoken opens old (e ∷ es) new = (mid : Talk) × Exchanged opens old e mid × Spoken None mid es new

-- a client's connection behind its handshake
abbrev pub IsClient : Talk → Type 0
IsClient t = (config : WebSocketConfig) × (input : List ℕ) × (t ≡ fresh Client config input)

-- All that was logged was spoken, from the handshake on, in bytes that the stream took and gave.
pub record WasSpoken (p : Wired Exchange) : Type 0 where
  pub first : Talk
  pub last : Talk
  pub fresh : IsClient first
  pub spoken : Spoken p.opens first p.log last
  pub given : IsPrefix last.given p.given
  pub taken : IsPrefix last.taken p.taken
