-- What a message says of a peer's session.
use Rattle.std.specs.Prelude.{◌≡◌, ⊤, Option, None, Some, Vec, ℕ}
use Rattle.std.specs.declared.alloc.Global.{Global}
use Rattle.nostr_wire.specs.declared.messages.FromRelay.{FromRelay}
use Rattle.nostr_wire.specs.Forms.{relay_form}
use Rattle.wire.specs.Line.{Talk}
use Rattle.wire.specs.Talk.{Listened}
use Rattle.ws_link.specs.declared.peer.Part.{Part}
use Rattle.ws_link.specs.Spoken.{answering, HearsMessage}

-- an answer is that of the session
abbrev pub Tells : FromRelay → Part → Type 0
Tells message (Part.Answer answer) = relay_form message ≡ answering answer.items
Tells message (Part.NegErr text) = ⊤
Tells message (Part.Closed text) = ⊤
Tells message Part.Other = ⊤

-- frames were read, and the last of them is or ends the answer, if one is told
abbrev pub MayAnswer : Talk → Talk → Option (Vec ℕ Global) → Type 0
MayAnswer old new None = Listened old new
MayAnswer old new (Some answer) = HearsMessage old new (answering answer.items)
