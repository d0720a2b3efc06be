use Rattle.std.proofs.Common.{◌≡◌, ◌++◌, map}
use Rattle.std.specs.Prelude.{filter_map}
use Rattle.event_index.specs.Marks.{tag_mark, marks_of}
use Rattle.event_index.specs.Postings.{posting}
use Rattle.event_index.proofs.postings.put_event.Given as goal

abbrev pub invariant-loop-tag : goal.invariant-loop-tag
invariant-loop-tag l = l.postings.items ++ map (λ m. posting m l.place) (filter_map tag_mark l.tag-iterator) ≡ l.fn.postings.items ++ map (λ m. posting m l.place) (marks_of l.event)
