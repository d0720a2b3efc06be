-- The frames of texts that a server sends (RFC 6455, section 5.2).
use Rattle.std.specs.Prelude.{ℕ, List, [], ◌∷◌, ◌++◌, None}
use Rattle.nostr_wire.specs.Forms.{Form}
use Rattle.nostr_wire.specs.Writing.{text_of}
use Rattle.wire.specs.Frames.{text_frame}

-- the text as one whole frame of a server, which has no mask
abbrev pub frame : List ℕ → List ℕ
frame text = text_frame None text

-- the frame of a message's text
abbrev pub spoken_one : Form → List ℕ
spoken_one m = frame (text_of m)

-- the frames of the messages' texts, in order
abbrev pub spoken : List Form → List ℕ
spoken [] = []
spoken (m ∷ messages) = spoken_one m ++ spoken messages
