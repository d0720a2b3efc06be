-- What went over a WebSocket, and what is to go.
use Rattle.std.specs.Prelude.{◌≡◌, ◌⊎◌, ℕ, List, [], ◌∷◌, ◌++◌, Option, None, Some, String, string_bytes}
use Rattle.std.specs.declared.alloc.Global.{Global}
use Rattle.websocket.specs.Connection.{Connection}
use Rattle.wire.specs.Line.{Line}

pub record Traffic : Type 0 where
  pub conn : Connection
  -- all bytes that the stream gave, and those of them that are not yet part of a frame
  pub given : List ℕ
  pub left : List ℕ
  -- all bytes that were put, and those of them that the stream took
  pub said : List ℕ
  pub taken : List ℕ
  -- a text that was heard and put back, if there is one
  pub back : List (List ℕ)

abbrev pub texts_of : Option (String Global) → List (List ℕ)
texts_of None = []
texts_of (Some text) = string_bytes text ∷ []

module _ {S : Type 0} where
  -- what was put is what the stream took, and then what waits
  abbrev pub traffic_of : Line S → List (List ℕ) → Traffic
  traffic_of l back =
      record { conn = l.conn; given = l.given; left = l.input; said = l.taken ++ l.output; taken = l.taken; back = back }

-- These bytes were put behind what was there, and nothing was read. The stream may have taken more.
pub record Says (old new : Traffic) (bytes : List ℕ) : Type 0 where
  pub said : new.said ≡ old.said ++ bytes
  pub conn : new.conn ≡ old.conn
  pub given : new.given ≡ old.given
  pub left : new.left ≡ old.left
  pub back : new.back ≡ old.back

-- Nothing was put or read. The stream may have taken more.
pub record Rests (old new : Traffic) : Type 0 where
  pub said : new.said ≡ old.said
  pub conn : new.conn ≡ old.conn
  pub given : new.given ≡ old.given
  pub left : new.left ≡ old.left
  pub back : new.back ≡ old.back

-- nothing was read
pub record ReadsNone (old new : Traffic) : Type 0 where
  pub conn : new.conn ≡ old.conn
  pub left : new.left ≡ old.left
  pub back : new.back ≡ old.back

-- these bytes were put there, or none of them
abbrev pub MaySay : Traffic → Traffic → List ℕ → Type 0
MaySay old new bytes = Rests old new ⊎ Says old new bytes
