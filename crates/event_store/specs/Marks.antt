-- A beginning of a history.
use Rattle.std.specs.Prelude.{List}
use Rattle.logbook.specs.Pages.{Book}
use Rattle.nostr_event.specs.EventView.{EventView}

-- which history, and its first events
pub record Marked : Type 0 where
  pub book : Book
  pub list : List EventView

abbrev pub marked : Book → List EventView → Marked
marked b l = record { book = b; list = l }
