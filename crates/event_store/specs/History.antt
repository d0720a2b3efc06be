-- The history of a store, which only grows, and what its step tells.
use Rattle.std.specs.Prelude.{ℕ, ◌≡◌, ◌==◌, true, List, [], ◌∷◌, ◌++◌, Option, length, IfSome, MatchBool}
use Rattle.logbook.specs.Pages.{Cell, Step, View, Book, Named}
use Rattle.nostr_event.specs.EventView.{EventView}

-- the first word is the length of the history. A book has two words, of which this one leaves the second at 0
abbrev pub IsKept : List Cell → List EventView → Type 0
IsKept cells log = cells ≡ (length log, true) ∷ (0, true) ∷ []

abbrev pub head_of : Book → Named
head_of b = record { tracked = true; key = 0; book = b }

-- the event was added to all that had been seen; or the history was longer
abbrev pub Added : Step EventView → View EventView ℕ → ℕ → View EventView ℕ → Type 0
Added s v found w = MatchBool (found == s.old) (w.0 ≡ v.0 ++ s.ask ∷ []) (length w.0 ≡ found)

-- As many events were added to the history as these, unless it may have gone on further than what is published.
abbrev pub IsLevel : Option ℕ → List EventView → Type 0
IsLevel head list = IfSome head (λ n. n ≡ length list)
