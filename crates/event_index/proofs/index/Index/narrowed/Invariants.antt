use Rattle.std.proofs.Common.{List}
use Rattle.std.specs.Prelude.{All}
use Rattle.nostr_event.specs.EventView.{EventView}
use Rattle.nostr_filter.specs.declared.filter.Filter.{Filter}
use Rattle.event_index.specs.Marks.{AreMarksOf}
use Rattle.event_index.specs.Postings.{Covers, HoldMatching}
use Rattle.event_index.proofs.index.Index.narrowed.Given as goal

abbrev pub invariant-loop-other : goal.invariant-loop-other
invariant-loop-other l = (f : Filter) (events : List EventView) → All (λ m. AreMarksOf f m.marks.items) l.conditions → Covers events l.self → HoldMatching f events l.fn.places.items → HoldMatching f events l.places.items
