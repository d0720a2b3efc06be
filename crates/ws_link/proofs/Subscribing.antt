-- How a subscription begins and goes on.
use Rattle.std.specs.Prelude.{String, string_bytes}
use Rattle.std.specs.declared.alloc.Global.{Global}
use Rattle.nostr_wire.specs.declared.messages.FromRelay.{FromRelay}
use Rattle.nostr_wire.specs.Forms.{relay_form}
use Rattle.wire.specs.declared.heard.Message.{Message}
use Rattle.wire.specs.Line.{Talk}
use Rattle.wire.specs.Steps.{Comes}
use Rattle.wire.proofs.Growing.{hears_came}
use Rattle.ws_link.specs.declared.live.Part.{Part}
use Rattle.ws_link.specs.Live.{MayTell, Tells}
use Rattle.ws_link.specs.Messages.{IsOnly}

pub may_tell : (old new : Talk) (s : String Global) (message : FromRelay) (part : Part) → Comes old new (Message.Text s) → IsOnly (relay_form message) (string_bytes s) → Tells message part → MayTell old new part
may_tell old new s message (Part.Event e) h k t = (string_bytes s, hears_came old new s h, rw t at k)
may_tell old new s message (Part.Closed text) h k t = tt
may_tell old new s message Part.Sign h k t = tt
may_tell old new s message Part.Other h k t = tt
may_tell old new s message Part.Late h k t = tt
