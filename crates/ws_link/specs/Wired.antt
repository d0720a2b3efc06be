-- What stands behind a stream, apart from the stream: a peer, whose log has exchanges, or a source, whose log has fetches.
use Rattle.std.specs.Prelude.{ℕ, ◌+◌, List, [], Bool, false, Option, Some, None}
use Rattle.nostr_filter.specs.declared.filter.Filter.{Filter}
use Rattle.ws_socket.specs.declared.fault.LinkFault.{LinkFault}
use Rattle.ws_socket.specs.declared.fault.LinkFault.TheVariants.{Link, Refused, Wire, TooManyOthers, Memory}
use mathlib.Core.List.{IsPrefix}

pub record Wired (E : Type 0) : Type 0 where
  -- whether it may still answer
  pub live : Bool
  pub log : List E
  pub faults : ℕ
  -- why the last call that failed did so
  pub last : Option LinkFault
  -- what a peer's first question opens the session with
  pub opens : Option Filter
  -- all bytes that the stream gave behind the handshake, and all that it took
  pub given : List ℕ
  pub taken : List ℕ

-- want of memory counts as no failure
abbrev pub failures_of : LinkFault → ℕ
failures_of Memory = 0
failures_of Link = 1
failures_of (Refused text) = 1
failures_of Wire = 1
failures_of TooManyOthers = 1

module _ {E : Type 0} where
  -- nothing was asked, and the stream gave these bytes
  abbrev pub unused : Bool → Option Filter → List ℕ → Wired E
  unused live opens given =
      record { live = live; log = []; faults = 0; last = None; opens = opens; given = given; taken = [] }

  -- the same but for what the stream gave and took
  abbrev pub with_bytes_of : Wired E → Wired E → Wired E
  with_bytes_of q p = record p { given = q.given; taken = q.taken }

  -- After any fault nothing is answered any more.
  abbrev pub failed_by : LinkFault → Wired E → Wired E
  failed_by f p = record p { live = false; faults = p.faults + failures_of f; last = Some f }

  -- the stream gave and took nothing less
  abbrev pub GoesOn : Wired E → Wired E → Type 0
  GoesOn p q = IsPrefix p.given q.given × IsPrefix p.taken q.taken
