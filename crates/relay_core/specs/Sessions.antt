-- Negentropy sessions (NIP-77).
use Rattle.std.specs.Prelude.{◌≡◌, ◌≤◌, ◌⊎◌, ℕ, List, [], ◌∷◌, ◌++◌, length, map, nat_lt, nat_le, IsPermutation, MatchBool, MatchOption, Err, codes}
use Rattle.item_key.specs.declared.Item.{Item}
use Rattle.neg_codec.specs.declared.CodecFault.{CodecFault}
use Rattle.neg_codec.specs.declared.CodecFault.TheVariants as codec
use Rattle.neg_codec.specs.Ranges.{Span}
use Rattle.neg_codec.specs.Text.{Spells}
use Rattle.neg_codec.specs.Reading.{longest, message_at}
use Rattle.item_roll.specs.Parts.{IsRoll}
use Rattle.neg_responder.specs.Reply.{Replies, RefusesQuery}
use Rattle.nostr_event.specs.EventView.{EventView, item_of}
use Rattle.nostr_filter.specs.declared.filter.Filter.{Filter}
use Rattle.event_table.specs.Events.{matching}
use Rattle.event_store.specs.Events.{Pinned}
use Rattle.relay_core.specs.declared.limits.RelayLimits.{RelayLimits}
use Rattle.relay_core.specs.declared.sessions.Session.{Session}
use Rattle.relay_core.specs.Messages.{answered, ended}
use Rattle.relay_core.specs.Kept.{Kept, kept_of, without_session, session_of}
use Rattle.relay_core.specs.Turns.{Turn, says_one}

abbrev pub session : List ℕ → Pinned → Session
session name snapshot = record { name = name; snapshot = snapshot }

-- the bytes are refused as no message of the protocol; those of another version aren't
abbrev pub IsBad : List ℕ → Type 0
IsBad query = (f : CodecFault) × (message_at query ≡ Err f) × RefusesQuery f

-- the responder's answer for the items, in at most so many bytes: to a message it is their own reply, and to another version it is
-- this one's byte
pub record IsAnswer (limit : ℕ) (items : List Item) (query answer : List ℕ) : Type 0 where
  pub good : ¬ IsBad query
  pub replies : (q : List Span) → length query ≤ longest → Spells query q → Replies limit items q answer
  pub short : length answer ≤ limit
  pub version : (b : ℕ) → message_at query ≡ Err (codec.Version b) → answer ≡ 0x61 ∷ []

-- A bad message ends the session of its name. Another one is answered for the session's own items.
abbrev pub Answers : ℕ → List Item → List ℕ → List ℕ → Kept → Turn → Type 0
Answers limit items name query t turn =
    (IsBad query × (turn ≡ says_one (ended name (codes "invalid: bad message")) (without_session name t)))
    ⊎ ((answer : List ℕ) × IsAnswer limit items query answer × (turn ≡ says_one (answered name answer) t))

-- what was pinned by the filter, of the events that are published
pub record IsPin (filter : Filter) (events : List EventView) (s : Pinned) : Type 0 where
  pub all : s.all ≡ events
  pub events_are : s.events ≡ matching filter events
  pub items : IsPermutation (map item_of s.events) s.roll
  pub sorted : IsRoll s.roll

-- NEG-MSG is answered for what its session has pinned
abbrev pub GoesOn : RelayLimits → List ℕ → List ℕ → Kept → Turn → Type 0
GoesOn limits name query t turn =
    MatchOption (session_of name t.sessions)
    (turn ≡ says_one (ended name (codes "closed: no such session")) t)
    (λ s. Answers limits.limit s.roll name query t turn)

-- The session keeps what was pinned, and the message is the first that it answers.
abbrev pub Begins : RelayLimits → Pinned → List ℕ → List ℕ → Kept → Turn → Type 0
Begins limits s name query t turn = GoesOn limits name query (kept_of t.subs (t.sessions ++ session name s ∷ [])) turn

-- NEG-OPEN ends the session of its name first, also where it is refused, as where too many events match. The filter's limit has no
-- part in it.
abbrev pub Opens : RelayLimits → List EventView → List ℕ → Filter → List ℕ → Kept → Turn → Type 0
Opens limits events name filter query t turn =
    let rest = without_session name t in
    MatchBool (nat_le limits.sessions (length rest.sessions))
    (turn ≡ says_one (ended name (codes "blocked: too many sessions")) rest)
    (MatchBool (nat_lt limits.records (length (matching filter events)))
    (turn ≡ says_one (ended name (codes "blocked: this query is too big")) rest)
    ((s : Pinned) × IsPin filter events s × Begins limits s name query rest turn))
