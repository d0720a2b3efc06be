-- What is put over a WebSocket on which messages wait that aren't written yet.
use Rattle.std.specs.Prelude.{◌≡◌, List, ◌++◌}
use Rattle.nostr_wire.specs.Forms.{Form}
use Rattle.wire.specs.Line.{Line}
use Rattle.ws_serve.specs.Frames.{spoken}

module _ {S : Type 0} where
  -- the frames of these messages are to go behind all that waits
  abbrev pub held : Line S → List Form → Line S
  held l later = record l { output = l.output ++ spoken later }

  -- Messages were written, and what is to go is the same.
  abbrev pub Writes : Line S → List Form → Line S → List Form → Type 0
  Writes old later new left = held new left ≡ held old later

  -- The stream may have taken more of what waits, and nothing else changed.
  abbrev pub Passes : Line S → Line S → Type 0
  Passes old new =
      (new.taken ++ new.output ≡ old.taken ++ old.output) × (new.conn ≡ old.conn) × (new.input ≡ old.input) × (new.given ≡ old.given)
