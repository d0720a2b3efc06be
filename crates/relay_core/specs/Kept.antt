-- What a connection keeps between two messages.
use Rattle.std.specs.Prelude.{◌≡◌, ℕ, ⊤, List, [], ◌∷◌, Bool, true, false, not, nat_lt, length, filter, if◌then◌else◌, Option, Some, None, bytes_eq}
use Rattle.std.specs.List.{AllByRecursion}
use Rattle.std.specs.Ordering.{nat_cmp, is_lt}
use Rattle.std.specs.Cmp.Lexicographic.{slice_cmp}
use Rattle.event_store.specs.Events.{Pinned}
use Rattle.relay_core.specs.declared.limits.RelayLimits.{RelayLimits}
use Rattle.relay_core.specs.declared.subs.Subscription.{Subscription}
use Rattle.relay_core.specs.declared.sessions.Session.{Session}

-- Subscriptions in the byte order of their names, and Negentropy sessions, each with what was pinned when it was opened. The
-- names of subscriptions and those of sessions are apart.
pub record Kept : Type 0 where
  pub subs : List Subscription
  pub sessions : List Session

abbrev pub kept_of : List Subscription → List Session → Kept
kept_of subs sessions = record { subs = subs; sessions = sessions }

-- a connection, which keeps nothing once a call has ended in a fault
pub record Connection : Type 0 where
  pub limits : RelayLimits
  pub kept : Option Kept

-- the first name is below the second, byte by byte
abbrev pub is_before : List ℕ → List ℕ → Bool
is_before a b = is_lt (slice_cmp nat_cmp a b)

-- in the byte order of their names, each name once
abbrev pub InOrder : List Subscription → Type 0
InOrder [] = ⊤
InOrder (s ∷ subs) = AllByRecursion (λ (t : Subscription). is_before s.name t.name ≡ true) subs × InOrder subs

-- with this one in its place, where no other has its name
abbrev pub put : Subscription → List Subscription → List Subscription
put s [] = s ∷ []
put s (t ∷ subs) = if is_before s.name t.name then s ∷ t ∷ subs else t ∷ put s subs

-- without the one of this name
abbrev pub other_subs : List ℕ → List Subscription → List Subscription
other_subs name subs = filter (λ (s : Subscription). not (bytes_eq s.name name)) subs

abbrev pub other_sessions : List ℕ → List Session → List Session
other_sessions name sessions = filter (λ (s : Session). not (bytes_eq s.name name)) sessions

-- what the session of this name has pinned
abbrev pub session_of : List ℕ → List Session → Option Pinned
session_of name [] = None
session_of name (s ∷ sessions) = if bytes_eq s.name name then Some s.snapshot else session_of name sessions

-- what is kept without the subscription, or the session, of this name
abbrev pub without_sub : List ℕ → Kept → Kept
without_sub name t = kept_of (other_subs name t.subs) t.sessions

abbrev pub without_session : List ℕ → Kept → Kept
without_session name t = kept_of t.subs (other_sessions name t.sessions)

-- whether there is a subscription
abbrev pub is_subscribed : Option Kept → Bool
is_subscribed None = false
is_subscribed (Some t) = nat_lt 0 (length t.subs)
