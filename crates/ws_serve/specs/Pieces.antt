-- What a connection puts, piece by piece.
use Rattle.std.specs.Prelude.{◌≡◌, ℕ, List, [], ◌∷◌, ◌++◌, Option, None, Some, codes}
use mathlib.Core.List.{IsPrefix}
use Rattle.nostr_event.specs.EventView.{EventView}
use Rattle.nostr_wire.specs.Forms.{Form}
use Rattle.relay_core.specs.declared.limits.RelayLimits.{RelayLimits}
use Rattle.relay_core.specs.Due.{CatchesUp}
use Rattle.relay_core.specs.Kept.{Kept}
use Rattle.relay_core.specs.Messages.{notice}
use Rattle.websocket.specs.Connection.{Outgoing, whole_header}
use Rattle.websocket.specs.Content.{Content, text, binary, ping, pong, close}
use Rattle.websocket.specs.Frame.{encode_frame}
use Rattle.wire.specs.Talk.{Frames}
use Rattle.ws_serve.specs.Answering.{Answers}
use Rattle.ws_serve.specs.Frames.{spoken}

-- a message that is to be answered: a text; bytes, which are no message; or a ping, a pong or a close, with its reply if it has one
pub data Asked : Type 0 where
  words : List ℕ → Asked
  bytes : Asked
  reply : Option Outgoing → Asked

-- the message that a frame is or ends, if there is one
abbrev pub asked_by : Option Content → Option Outgoing → List Asked
asked_by None r = []
asked_by (Some (text bs)) r = words bs ∷ []
asked_by (Some (binary bs)) r = bytes ∷ []
asked_by (Some (ping bs)) r = reply r ∷ []
asked_by (Some (pong bs)) r = reply r ∷ []
asked_by (Some (close frame)) r = reply r ∷ []

-- the messages of frames, in order
abbrev pub messages_of : Frames → List Asked
messages_of [] = []
messages_of (f ∷ fs) = asked_by f.1.message f.1.reply ++ messages_of fs

-- the frame of a server that replies to a ping or a close
abbrev pub reply_frame : Option Outgoing → List ℕ
reply_frame None = []
reply_frame (Some frame) = encode_frame (whole_header frame.opcode None) frame.payload

-- These bytes are the answer to a message, or were published.
pub data Piece : Type 0 where
  answers : Asked → List ℕ → Piece
  publishes : List ℕ → Piece

abbrev pub put_by : Piece → List ℕ
put_by (answers m out) = out
put_by (publishes out) = out

-- all bytes of the pieces, in order
abbrev pub said_by : List Piece → List ℕ
said_by [] = []
said_by (p ∷ pieces) = put_by p ++ said_by pieces

-- the messages that the pieces answer, in order
abbrev pub answered_by : List Piece → List Asked
answered_by [] = []
answered_by (answers m out ∷ pieces) = m ∷ answered_by pieces
answered_by (publishes out ∷ pieces) = answered_by pieces

-- which events are published, as far as the connection knows, and what it keeps
pub record Standing : Type 0 where
  pub events : List EventView
  pub kept : Kept

-- A text is answered by the frames of the relay's answers to it, where these events are published.
abbrev pub IsAnswered : RelayLimits → List EventView → Asked → Kept → List ℕ → Kept → Type 0
IsAnswered limits events (words ws) old out new = (forms : List Form) × Answers limits events ws old forms new × (out ≡ spoken forms)
IsAnswered limits events bytes old out new = (out ≡ spoken (notice (codes "invalid: bad message") ∷ [])) × (new ≡ old)
IsAnswered limits events (reply r) old out new = (out ≡ reply_frame r) × (new ≡ old)

-- The events known only become more. What is published is a catch-up with them.
abbrev pub Puts : RelayLimits → Standing → Piece → Standing → Type 0
Puts limits old (answers m out) new =
    IsPrefix old.events new.events × IsAnswered limits new.events m old.kept out new.kept
Puts limits old (publishes out) new =
    IsPrefix old.events new.events
    × ((front : ℕ) × (forms : List Form) × CatchesUp new.events front forms old.kept new.kept × (out ≡ spoken forms))

-- the pieces were put one behind another
abbrev pub ArePut : RelayLimits → Standing → List Piece → Standing → Type 0
ArePut limits old [] new = new ≡ old
ArePut limits old (p ∷ pieces) new = (mid : Standing) × Puts limits old p mid × ArePut limits mid pieces new
