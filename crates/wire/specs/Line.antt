-- What stands behind a wire: the connection, what was read and is not yet part of a frame, what waits to be sent, and all bytes that
-- its stream gave and took so far.
use Rattle.std.specs.Prelude.{◌≡◌, ℕ, List, [], ◌++◌, None, Option}
use Rattle.std.specs.Io.KnownBytes.{Appends, Consumes}
use Rattle.websocket.specs.Connection.{Connection}
use Rattle.websocket.specs.declared.protocol.config.Role.{Role}
use Rattle.websocket.specs.declared.protocol.config.WebSocketConfig.{WebSocketConfig}
use Rattle.websocket.specs.declared.protocol.state.WebSocketState.TheVariants as WebSocketState

pub record Line (S : Type 0) : Type 0 where
  pub stream : S
  pub conn : Connection
  pub input : List ℕ
  pub output : List ℕ
  pub given : List ℕ
  pub taken : List ℕ

-- the same without the stream
pub record Talk : Type 0 where
  pub conn : Connection
  pub input : List ℕ
  pub output : List ℕ
  pub given : List ℕ
  pub taken : List ℕ

-- a connection behind its handshake, of which the stream gave these bytes so far
abbrev pub fresh : Role → WebSocketConfig → List ℕ → Talk
fresh role config input =
    record {
      conn = record { role = role; state = WebSocketState.Active; config = config; fragments = None };
      input = input;
      output = [];
      given = input;
      taken = [];
    }

module _ {S : Type 0} where
  abbrev pub talk_of : Line S → Talk
  talk_of l = record { conn = l.conn; input = l.input; output = l.output; given = l.given; taken = l.taken }

  -- the stream gave these bytes, and nothing else changed
  abbrev pub Gave : (S → Option (List ℕ)) → Line S → Line S → List ℕ → Type 0
  Gave remaining old new got =
      (new.given ≡ old.given ++ got) × (new.input ≡ old.input ++ got) × (new.conn ≡ old.conn)
      × (new.output ≡ old.output) × (new.taken ≡ old.taken) × Consumes (remaining old.stream) (remaining new.stream) got

  abbrev pub Fills : (S → Option (List ℕ)) → Line S → Line S → Type 0
  Fills remaining old new = (got : List ℕ) × Gave remaining old new got

  -- the stream took these bytes of those that waited, and nothing else changed
  abbrev pub Took : (S → Option (List ℕ)) → Line S → Line S → List ℕ → Type 0
  Took contents old new sent =
      (new.taken ≡ old.taken ++ sent) × (old.output ≡ sent ++ new.output) × (new.conn ≡ old.conn)
      × (new.input ≡ old.input) × (new.given ≡ old.given) × Appends (contents old.stream) (contents new.stream) sent

  abbrev pub Hands : (S → Option (List ℕ)) → Line S → Line S → Type 0
  Hands contents old new = (sent : List ℕ) × Took contents old new sent

  -- the streams gave and took nothing more
  abbrev pub Rests : Line S → Line S → Type 0
  Rests old new = (new.stream ≡ old.stream) × (new.given ≡ old.given) × (new.taken ≡ old.taken)
