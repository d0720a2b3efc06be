-- A connection that is served.
use Rattle.std.specs.Prelude.{◌≡◌, ℕ, Bool, false, List, [], Option}
use mathlib.Core.List.{IsPrefix}
use Rattle.nostr_event.specs.EventView.{EventView}
use Rattle.relay_core.specs.Kept.{Connection}
use Rattle.ws_serve.specs.Served.{IsServed, Serving, known_by}
use Rattle.ws_serve.specs.Traffic.{Traffic}

pub record Talking : Type 0 where
  -- what went over its WebSocket
  pub traffic : Traffic
  -- its limits, and what it keeps between two messages
  pub conn : Connection
  -- how many texts were answered
  pub texts : ℕ
  -- what the reader of its last turn had seen
  pub seen : Option (List EventView)
  -- whether nothing more is read, or put
  pub over : Bool

-- What the stream took is the beginning of what was put, and that answers what the stream gave, where no more is published than what
-- was seen. Nothing that was read is left open, unless the connection is over.
pub record WasServed (t : Talking) : Type 0 where
  pub served : IsServed t.conn.limits (known_by t.seen) t.traffic
  pub took : IsPrefix t.traffic.taken t.traffic.said
  pub answered : t.over ≡ false → Serving [] t.conn t.traffic (known_by t.seen)
