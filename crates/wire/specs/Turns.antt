-- One frame read, and what it brings about.
use Rattle.std.specs.Prelude.{◌≡◌, ℕ, List, ⊤, drop, Option, None, Some, Ok, string_bytes}
use Rattle.websocket.specs.declared.protocol.frame.codec.FrameStatus.TheVariants.{Partial, Complete}
use Rattle.websocket.specs.Connection.{Effect, Sends, read_step}
use Rattle.websocket.specs.Content.{Content, text, binary, ping, pong, close}
use Rattle.wire.specs.declared.heard.Heard.{Heard}
use Rattle.wire.specs.Line.{Line, Rests}

-- what a message is to the one who hears it
abbrev pub Means : Option Content → Heard → Type 0
Means (Some (text bs)) (Heard.Text s) = string_bytes s ≡ bs
Means (Some (binary bs)) Heard.Binary = ⊤
Means (Some (close frame)) Heard.Close = ⊤
Means (Some (ping bs)) Heard.Other = ⊤
Means (Some (pong bs)) Heard.Other = ⊤
Means None Heard.Part = ⊤
Means m h = ⊥

module _ {S : Type 0} where
  -- One frame at the front of the input was read: it says this, its reply waits behind what waited, and it is gone.
  abbrev pub Reads : Line S → Line S → Heard → ℕ × Effect → Type 0
  Reads old new h frame =
      (read_step old.conn old.input ≡ Ok (Complete frame)) × Means frame.1.message h × (new.conn ≡ frame.1.next)
      × (new.input ≡ drop frame.0 old.input) × Sends frame.1.next.role frame.1.reply old.output new.output × Rests old new

  abbrev pub Hears : Line S → Line S → Heard → Type 0
  Hears old new Heard.Nothing = (new ≡ old) × ((needed : ℕ) × (read_step old.conn old.input ≡ Ok (Partial needed)))
  Hears old new (Heard.Text s) = (frame : ℕ × Effect) × Reads old new (Heard.Text s) frame
  Hears old new Heard.Binary = (frame : ℕ × Effect) × Reads old new Heard.Binary frame
  Hears old new Heard.Other = (frame : ℕ × Effect) × Reads old new Heard.Other frame
  Hears old new Heard.Close = (frame : ℕ × Effect) × Reads old new Heard.Close frame
  Hears old new Heard.Part = (frame : ℕ × Effect) × Reads old new Heard.Part frame

  -- The same, but the reply was put behind other bytes, and what waits is left alone.
  abbrev pub ReadsApart : Line S → Line S → (before after : List ℕ) → Heard → ℕ × Effect → Type 0
  ReadsApart old new before after h frame =
      (read_step old.conn old.input ≡ Ok (Complete frame)) × Means frame.1.message h × Sends frame.1.next.role frame.1.reply before after
      × (new ≡ record old { conn = frame.1.next; input = drop frame.0 old.input })

  abbrev pub HearsApart : Line S → Line S → (before after : List ℕ) → Heard → Type 0
  HearsApart old new before after Heard.Nothing = (new ≡ old) × (after ≡ before) × ((needed : ℕ) × (read_step old.conn old.input ≡ Ok (Partial needed)))
  HearsApart old new before after (Heard.Text s) = (frame : ℕ × Effect) × ReadsApart old new before after (Heard.Text s) frame
  HearsApart old new before after Heard.Binary = (frame : ℕ × Effect) × ReadsApart old new before after Heard.Binary frame
  HearsApart old new before after Heard.Other = (frame : ℕ × Effect) × ReadsApart old new before after Heard.Other frame
  HearsApart old new before after Heard.Close = (frame : ℕ × Effect) × ReadsApart old new before after Heard.Close frame
  HearsApart old new before after Heard.Part = (frame : ℕ × Effect) × ReadsApart old new before after Heard.Part frame
