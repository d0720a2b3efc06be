-- The rule of the store.
use Rattle.std.specs.Prelude.{◌≡◌, ℕ, List, []}
use mathlib.Core.List.{IsPrefix}
use mathlib.Core.Option.{some}
use lib.ListN.{get_elem?}
use Rattle.logbook.specs.Pages.{Book}
use Rattle.event_store.specs.declared.rule.View.{View}
use Rattle.event_store.specs.Marks.{Marked}

abbrev pub newcomer : View
newcomer = record { seen = [] }

-- the published list is one of this history, and what each seat has seen is a beginning of it
abbrev pub Keeps : Book → Marked → List View → Type 0
Keeps book published views = (published.book ≡ book) × ((seat : ℕ) (v : View) → get_elem? views seat ≡ some v → IsPrefix v.seen published.list)

-- what is seen is the published list, which begins with what was seen before
abbrev pub Seen : Book → View → Marked → Marked → View → Type 0
Seen book v before after w = (after.book ≡ book) × IsPrefix v.seen after.list × (w.seen ≡ after.list)
