-- What reading until a message comes did.
use Rattle.std.specs.Prelude.{ℕ, List, [], ◌∷◌, ◌++◌, Option, None, Some}
use Rattle.websocket.specs.Connection.{Effect}
use Rattle.wire.specs.declared.heard.Heard.{Heard}
use Rattle.wire.specs.declared.heard.Message.{Message}
use Rattle.wire.specs.Line.{Talk}
use Rattle.wire.specs.Talk.{Frames, AreParts, Listens, Waited}
use Rattle.wire.specs.Turns.{Means}

-- what the frame says that is or ends the message
abbrev pub heard_of : Message → Heard
heard_of (Message.Text s) = Heard.Text s
heard_of Message.Binary = Heard.Binary
heard_of Message.Other = Heard.Other
heard_of Message.Close = Heard.Close

-- Frames were read. The last of them is or ends this message, and the others are parts.
abbrev pub Comes : Talk → Talk → Message → Type 0
Comes old new message =
    (got : List ℕ) × (frames : Frames) × (last : ℕ × Effect)
    × Listens old new got (frames ++ last ∷ []) × AreParts frames × Means last.1.message (heard_of message)

-- no message has come yet, or this one
abbrev pub MayCome : Talk → Talk → Option Message → Type 0
MayCome old new None = Waited old new
MayCome old new (Some message) = Comes old new message
