-- What one call on a server's WebSocket does.
use Rattle.std.specs.Prelude.{◌≡◌, ⊤, ℕ, List, [], ◌∷◌, ◌++◌, Option, None, Ok, string_bytes}
use mathlib.Core.List.{IsPrefix}
use Rattle.nostr_event.specs.EventView.{EventView}
use Rattle.relay_core.specs.Kept.{Connection as Conn}
use Rattle.websocket.specs.declared.protocol.config.Role.{Role}
use Rattle.websocket.specs.declared.protocol.config.WebSocketConfig.{WebSocketConfig}
use Rattle.websocket.specs.Connection.{Effect, Outgoing, Sends, close_step}
use Rattle.wire.specs.declared.heard.Heard.{Heard}
use Rattle.wire.specs.Talk.{Frames, AreRead}
use Rattle.ws_serve.specs.declared.messages.Next.{Next}
use Rattle.ws_serve.specs.Pieces.{Asked, words, bytes, reply, messages_of}
use Rattle.ws_serve.specs.Served.{server, put_back, Serving}
use Rattle.ws_serve.specs.Traffic.{Traffic, Says}

-- behind the handshake: nothing was read or put
abbrev pub IsFresh : Traffic → Type 0
IsFresh t =
    (config : WebSocketConfig) × (t ≡ record { conn = server config; given = []; left = []; said = []; taken = []; back = [] })

-- the stream gave these bytes
pub record Gives (old new : Traffic) : Type 0 where
  pub got : List ℕ
  pub given : new.given ≡ old.given ++ got
  pub left : new.left ≡ old.left ++ got
  pub conn : new.conn ≡ old.conn
  pub said : new.said ≡ old.said
  pub back : new.back ≡ old.back

-- nothing was put, and the stream gave nothing
pub record Holds (old new : Traffic) : Type 0 where
  pub given : new.given ≡ old.given
  pub said : new.said ≡ old.said

-- a close was put, unless one was already
pub record PutsClose (old new : Traffic) : Type 0 where
  pub effect : Effect
  pub closes : close_step old.conn None ≡ Ok effect
  pub sends : Sends effect.next.role effect.reply old.said new.said
  pub given : new.given ≡ old.given

-- These messages were read: what was put back, and those of frames. Nothing was put.
pub record Brings (old new : Traffic) (asked : List Asked) : Type 0 where
  pub frames : Frames
  pub read : AreRead old.conn old.left frames new.conn new.left
  pub asks : put_back old ++ messages_of frames ≡ asked ++ put_back new
  pub given : new.given ≡ old.given
  pub said : new.said ≡ old.said

-- what is to be answered then, where a reply is these bytes
abbrev pub Asks : Role → Heard → List ℕ → List Asked → Type 0
Asks role Heard.Nothing out asked = asked ≡ []
Asks role (Heard.Text s) out asked = asked ≡ words (string_bytes s) ∷ []
Asks role Heard.Binary out asked = asked ≡ bytes ∷ []
Asks role Heard.Other out asked = (r : Option Outgoing) × Sends role r [] out × (asked ≡ reply r ∷ [])
Asks role Heard.Close out asked = (r : Option Outgoing) × Sends role r [] out × (asked ≡ reply r ∷ [])
Asks role Heard.Part out asked = asked ≡ []

-- nothing is put back behind a text
abbrev pub IsLast : Heard → Traffic → Type 0
IsLast (Heard.Text s) t = t.back ≡ []
IsLast Heard.Binary t = ⊤
IsLast Heard.Other t = ⊤
IsLast Heard.Close t = ⊤
IsLast Heard.Part t = ⊤
IsLast Heard.Nothing t = ⊤

-- a frame was read, or a message, or none has come
abbrev pub Hears : Traffic → Traffic → List ℕ → Heard → Type 0
Hears old new out h = (asked : List Asked) × Asks new.conn.role h out asked × Brings old new asked × IsLast h new

abbrev pub HearsNext : Traffic → Traffic → List ℕ → Next → Type 0
HearsNext old new out (Next.Event s) = Brings old new (words (string_bytes s) ∷ [])
HearsNext old new out (Next.Other h) = Hears old new out h
HearsNext old new out Next.Later = Brings old new []

-- what was heard is pending, and nothing else
abbrev pub Awaits : Heard → List ℕ → Conn → Traffic → List EventView → Type 0
Awaits h out c t events = (asked : List Asked) × Asks t.conn.role h out asked × Serving asked c t events

-- a beginning of these bytes was put
abbrev pub SaysSome : Traffic → Traffic → List ℕ → Type 0
SaysSome old new bs = (part : List ℕ) × Says old new part × IsPrefix part bs
