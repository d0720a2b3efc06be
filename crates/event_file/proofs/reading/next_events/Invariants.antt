use Rattle.std.proofs.Common.{ℕ, ◌+◌, ◌<◌, ◌≤◌, List, [], ◌∷◌, length, map}
use Rattle.std.specs.Arc.{arc_value}
use Rattle.mirror_run.specs.Lines.{lines_of}
use Rattle.event_file.specs.Lines.{HoldEvents}
use Rattle.event_file.proofs.reading.next_events.Given as goal

abbrev pub invariant-loop : goal.invariant-loop
invariant-loop l = record {
  hold : (lines : List (List ℕ)) → HoldEvents lines (arc_value l.fn.first ∷ []) (lines_of l.text) → HoldEvents lines (map arc_value l.events.items) (lines_of l.rest);
  shorter : length l.events.items + length l.rest ≤ length l.text + 1;
  some : 0 < length l.events.items;
}
