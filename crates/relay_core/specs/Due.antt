-- What was published since the subscriptions were last served.
use Rattle.std.specs.Prelude.{◌≡◌, ℕ, ◌+◌, ◌≤◌, ◌&&◌, List, [], ◌∷◌, ◌++◌, Bool, map, filter, nat_le, nat_lt, if◌then◌else◌, length, take}
use mathlib.Core.List.{IsPrefix}
use Rattle.std.specs.List.{list_any}
use Rattle.nostr_event.specs.EventView.{EventView}
use Rattle.nostr_filter.specs.Matching.{matches_of}
use Rattle.nostr_wire.specs.Forms.{Form}
use Rattle.relay_core.specs.declared.subs.Subscription.{Subscription}
use Rattle.relay_core.specs.Messages.{event_to}
use Rattle.relay_core.specs.Kept.{Kept, kept_of}

-- the event at the place p isn't before the subscription's mark, and one of its filters matches it
abbrev pub is_due : ℕ → EventView → Subscription → Bool
is_due p e s = nat_le s.mark p && list_any (λ f. matches_of f e) s.filters

-- the event at the place p, once to each subscription that it is due to, in the order of these
abbrev pub sent_at : ℕ → EventView → List Subscription → List Form
sent_at p e subs = map (λ (s : Subscription). event_to s.name e) (filter (is_due p e) subs)

-- the events from the place p on, in the order in which they were published
abbrev pub due_from : ℕ → List Subscription → List EventView → List Form
due_from p subs [] = []
due_from p subs (e ∷ events) = sent_at p e subs ++ due_from (p + 1) subs events

abbrev pub due : List Subscription → List EventView → List Form
due subs events = due_from 0 subs events

-- the further of two marks
abbrev pub further : ℕ → ℕ → ℕ
further a b = if nat_lt a b then b else a

-- the mark of each subscription stands at the front n, or where it was if that is further
abbrev pub marked : ℕ → List Subscription → List Subscription
marked n subs = map (λ (s : Subscription). record s { mark = further s.mark n }) subs

abbrev pub caught_up : List EventView → Kept → Kept
caught_up events t = kept_of (marked (length events) t.subs) t.sessions

-- A catch-up gives what is due of the first events up to some front, and moves the marks there. Nothing is lost or repeated by that:
-- what was due of these events, or of more that are published behind them, is what was given and what is due then.
pub record CatchesUp (events : List EventView) (front : ℕ) (out : List Form) (old new : Kept) : Type 0 where
  pub within : front ≤ length events
  pub given : out ≡ due old.subs (take front events)
  pub marks : new ≡ caught_up (take front events) old
  pub nothing_lost : (more : List EventView) → IsPrefix events more → due old.subs more ≡ out ++ due new.subs more
