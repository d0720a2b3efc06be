-- A log: a medium that holds the lines of a beginning of a store's history.
use Rattle.std.specs.Prelude.{◌≡◌, ℕ, Bool, false, List, [], ◌++◌, take, length}
use mathlib.Core.List.{IsPrefix}
use Rattle.nostr_event.specs.EventView.{EventView}
use Rattle.event_log.specs.Text.{text_of}
use Rattle.event_log.specs.Media.{Held, Takes}

-- the medium; the events whose lines it has whole, and those of them whose lines last; whether something else may stand behind
-- these lines, which is cut before more is written; and whether lines last before they count as kept
pub record Logged (M : Type 0) : Type 0 where
  pub medium : M
  pub events : List EventView
  pub safe : List EventView
  pub torn : Bool
  pub eager : Bool

-- the lines of the events, with nothing behind them unless it is torn: then with a beginning of the lines of further ones; and lines
-- that last
pub record HoldsLines (torn : Bool) (events : List EventView) (len : ℕ) (safe : List EventView) (safe_len : ℕ) (h : Held) : Type 0 where
  pub rest : List ℕ
  pub after : List EventView
  pub written : h.written ≡ text_of events ++ rest
  pub whole : torn ≡ false → rest ≡ []
  pub further : IsPrefix events after
  pub begun : IsPrefix h.written (text_of after)
  pub lasting : h.lasting ≡ text_of safe
  pub len_is : len ≡ length (text_of events)
  pub safe_len_is : safe_len ≡ length (text_of safe)

-- the lines of these events and nothing else, all of which last
pub record HoldsAll (events : List EventView) (len : ℕ) (h : Held) : Type 0 where
  pub written : h.written ≡ text_of events
  pub lasting : h.lasting ≡ text_of events
  pub len_is : len ≡ length (text_of events)

-- the lines of these events and nothing else
abbrev pub HasText : List EventView → Held → Held → Type 0
HasText events old new = new.written ≡ text_of events

-- the lines of these events last
abbrev pub Lasts : List EventView → Held → Held → Type 0
Lasts events old new = new.lasting ≡ text_of events

-- the lines of these events, and behind them what a fault left of the lines of further ones: a beginning
abbrev pub HasTorn : List EventView → Held → Held → Type 0
HasTorn events old new =
    (rest : List ℕ) × (after : List EventView) × (new.written ≡ text_of events ++ rest) × IsPrefix events after × IsPrefix new.written (text_of after)

-- it took the lines of the events from the place `start` on, which are `count` bytes
abbrev pub TakesLines : List EventView → ℕ → ℕ → Held → Held → Type 0
TakesLines events start count old new = (bytes : List ℕ) × Takes bytes old new × (text_of events ≡ text_of (take start events) ++ bytes) × (count ≡ length bytes)

-- it took a beginning of these lines
abbrev pub TakesBegun : List EventView → ℕ → Held → Held → Type 0
TakesBegun events start old new = (part : List ℕ) × (left : List ℕ) × Takes part old new × (text_of events ≡ text_of (take start events) ++ (part ++ left))
