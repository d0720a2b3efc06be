-- A connection's whole conversation, from the bytes that its stream gave to those that it took.
use Rattle.std.specs.Prelude.{◌≡◌, ◌⊎◌, ℕ, Bool, false, List, [], ◌++◌, map, Option, None, Some, Ok}
use mathlib.Core.List.{IsPrefix}
use Rattle.nostr_event.specs.EventView.{EventView}
use Rattle.relay_core.specs.declared.limits.RelayLimits.{RelayLimits}
use Rattle.relay_core.specs.Kept.{Connection as Conn, kept_of}
use Rattle.websocket.specs.declared.protocol.config.Role.TheVariants.{Server}
use Rattle.websocket.specs.declared.protocol.config.WebSocketConfig.{WebSocketConfig}
use Rattle.websocket.specs.declared.protocol.state.WebSocketState.TheVariants as WebSocketState
use Rattle.websocket.specs.Connection.{Connection, Effect, close_step}
use Rattle.wire.specs.Talk.{Frames, AreRead}
use Rattle.ws_serve.specs.Pieces.{Asked, words, Piece, Standing, messages_of, answered_by, said_by, reply_frame, ArePut}
use Rattle.ws_serve.specs.Traffic.{Traffic}

-- a server's connection behind its handshake
abbrev pub server : WebSocketConfig → Connection
server config = record { role = Server; state = WebSocketState.Active; config = config; fragments = None }

-- no event is known, and there is no subscription and no session
abbrev pub start : Standing
start = record { events = []; kept = kept_of [] [] }

-- nothing more, or a close
abbrev pub MayClose : Connection → List ℕ → Type 0
MayClose conn closing =
    (closing ≡ []) ⊎ ((effect : Effect) × (close_step conn None ≡ Ok effect) × (closing ≡ reply_frame effect.reply))

-- The stream gave the bytes of these frames, and others that are left. Their messages are answered by these pieces, each once and in
-- order, and some may be pending. What was put is the beginning of what the pieces and a close put: all of it, unless a call has failed.
pub record IsServed (limits : RelayLimits) (events : List EventView) (t : Traffic) : Type 0 where
  pub config : WebSocketConfig
  pub frames : Frames
  pub conn : Connection
  pub left : List ℕ
  pub pieces : List Piece
  pub pending : List Asked
  pub last : Standing
  pub closing : List ℕ
  pub read : AreRead (server config) t.given frames conn left
  pub asked : messages_of frames ≡ answered_by pieces ++ pending
  pub put : ArePut limits start pieces last
  pub known : IsPrefix last.events events
  pub closed : MayClose conn closing
  pub said : IsPrefix t.said (said_by pieces ++ closing)

-- These bytes were given, of which those are left that follow the frames read, and these were put: all that the pieces put.
pub record Talks (limits : RelayLimits) (conn : Connection) (left : List ℕ) (pending : List Asked) (last : Standing) (given said : List ℕ) : Type 0 where
  pub config : WebSocketConfig
  pub frames : Frames
  pub pieces : List Piece
  pub read : AreRead (server config) given frames conn left
  pub asked : messages_of frames ≡ answered_by pieces ++ pending
  pub put : ArePut limits start pieces last
  pub spoke : said ≡ said_by pieces

-- No call has failed so far, these messages are pending, and the reader has seen these events.
pub record IsServing (pending : List Asked) (conn : Connection) (left : List ℕ) (c : Conn) (t : Traffic) (events : List EventView) : Type 0 where
  pub last : Standing
  pub talks : Talks c.limits conn left pending last t.given t.said
  pub kept : c.kept ≡ Some last.kept
  pub known : IsPrefix last.events events

-- the messages that were put back
abbrev pub put_back : Traffic → List Asked
put_back t = map words t.back

-- The same where reading may go on: these messages are pending, and then what was put back.
abbrev pub Serving : List Asked → Conn → Traffic → List EventView → Type 0
Serving pending c t events = IsServing (pending ++ put_back t) t.conn t.left c t events

-- The conversation so far, where a call may have failed.
abbrev pub Served : Conn → Traffic → List EventView → Type 0
Served c t events = IsServed c.limits events t

-- Whatever was pending still is, and no call has failed.
abbrev pub GoesOn : Conn → Traffic → List EventView → Conn → Traffic → List EventView → Type 0
GoesOn c t events c2 t2 events2 =
    (pending : List Asked) (conn : Connection) (left : List ℕ) → IsServing pending conn left c t events → IsServing pending conn left c2 t2 events2

-- a call has failed
abbrev pub Stops : Conn → Traffic → List EventView → Conn → Traffic → List EventView → Type 0
Stops c t events c2 t2 events2 =
    (pending : List Asked) (conn : Connection) (left : List ℕ) → IsServing pending conn left c t events → Served c2 t2 events2

abbrev pub known_by : Option (List EventView) → List EventView
known_by None = []
known_by (Some events) = events

-- What holds of a connection between two turns: all that it read is answered but what was put back, unless it is over.
pub record Stands (over : Bool) (c : Conn) (t : Traffic) (seen : Option (List EventView)) : Type 0 where
  pub served : Served c t (known_by seen)
  pub goes_on : over ≡ false → Serving [] c t (known_by seen)
