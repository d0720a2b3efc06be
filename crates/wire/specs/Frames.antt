-- The frames of texts (RFC 6455, section 5.2).
use Rattle.std.specs.Prelude.{◌≡◌, ℕ, List, ◌++◌, Option}
use Rattle.websocket.specs.declared.protocol.frame.coding.OpCode.TheVariants.{Data}
use Rattle.websocket.specs.declared.protocol.frame.coding.Data.TheVariants.{Text}
use Rattle.websocket.specs.Connection.{IsMaskOf, whole_header}
use Rattle.websocket.specs.Frame.{encode_frame}
use Rattle.wire.specs.Line.{Line}

-- the text as one whole frame under this mask
abbrev pub text_frame : Option (List ℕ) → List ℕ → List ℕ
text_frame mask words = encode_frame (whole_header (Data Text) mask) words

module _ {S : Type 0} where
  -- The text waits behind what waited, as one frame under a mask of the role (a client's has four bytes, and a server has none), and
  -- nothing else changed.
  abbrev pub Puts : Line S → Line S → List ℕ → Type 0
  Puts old new words =
      (mask : Option (List ℕ)) × IsMaskOf old.conn.role mask × (new ≡ record old { output = old.output ++ text_frame mask words })
