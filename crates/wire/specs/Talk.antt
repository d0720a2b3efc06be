-- What was said over a wire, and what was heard.
use Rattle.std.specs.Prelude.{◌≡◌, ⊤, ℕ, List, [], ◌∷◌, ◌++◌, drop, Option, None, Some, Ok}
use Rattle.websocket.specs.declared.protocol.frame.codec.FrameStatus.TheVariants.{Complete}
use Rattle.websocket.specs.Connection.{Connection, Effect, IsMaskOf, Sends, read_step}
use Rattle.websocket.specs.Content.{text}
use Rattle.wire.specs.Frames.{text_frame}
use Rattle.wire.specs.Line.{Talk}
use mathlib.Core.List.{IsPrefix}

-- frames, for each how many bytes it takes and what it does
abbrev pub Frames : Type 0
Frames = List (ℕ × Effect)

-- The bytes begin with these frames, one behind another, from a state of the connection to a later one. The others are left.
abbrev pub AreRead : Connection → List ℕ → Frames → Connection → List ℕ → Type 0
AreRead c bytes [] c2 left = (c2 ≡ c) × (left ≡ bytes)
AreRead c bytes (f ∷ fs) c2 left = (read_step c bytes ≡ Ok (Complete f)) × AreRead f.1.next (drop f.0 bytes) fs c2 left

-- behind what was said stand the frames' replies to pings and closes, in order
abbrev pub AreReplied : Frames → List ℕ → List ℕ → Type 0
AreReplied [] old new = new ≡ old
AreReplied (f ∷ fs) old new = (mid : List ℕ) × Sends f.1.next.role f.1.reply old mid × AreReplied fs mid new

-- Between two moments the stream gave these bytes, behind those read before, in which these frames were read, and what it took and
-- what waits for it grew by their replies alone.
pub record Listens (old new : Talk) (got : List ℕ) (frames : Frames) : Type 0 where
  pub given : new.given ≡ old.given ++ got
  pub read : AreRead old.conn (old.input ++ got) frames new.conn new.input
  pub replied : AreReplied frames (old.taken ++ old.output) (new.taken ++ new.output)
  pub took : IsPrefix old.taken new.taken

abbrev pub Listened : Talk → Talk → Type 0
Listened old new = (got : List ℕ) × (frames : Frames) × Listens old new got frames

-- frames that neither are nor end a message
abbrev pub AreParts : Frames → Type 0
AreParts [] = ⊤
AreParts (f ∷ fs) = (f.1.message ≡ None) × AreParts fs

-- frames were read, and no message came
abbrev pub Waited : Talk → Talk → Type 0
Waited old new = (got : List ℕ) × (frames : Frames) × Listens old new got frames × AreParts frames

-- frames were read, and the last of them is or ends this text
abbrev pub HearsText : Talk → Talk → List ℕ → Type 0
HearsText old new words =
    (got : List ℕ) × (frames : Frames) × (last : ℕ × Effect)
    × Listens old new got (frames ++ last ∷ []) × (last.1.message ≡ Some (text words))

-- The stream took what waited, and then the text as one frame. Nothing was read, and nothing waits.
abbrev pub Says : Talk → Talk → List ℕ → Type 0
Says old new words =
    (mask : Option (List ℕ)) × IsMaskOf old.conn.role mask
    × (new ≡ record old { output = []; taken = (old.taken ++ old.output) ++ text_frame mask words })

-- the stream gave and took nothing less
abbrev pub Grows : Talk → Talk → Type 0
Grows old new = IsPrefix old.given new.given × IsPrefix old.taken new.taken
