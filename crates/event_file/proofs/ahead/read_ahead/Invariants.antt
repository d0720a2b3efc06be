use Rattle.std.proofs.Common.{◌≡◌, ◌+◌, ◌-◌, ◌≤◌, drop, length, map}
use Rattle.std.specs.Arc.{arc_value}
use Rattle.mirror_run.specs.Lines.{lines_of}
use Rattle.event_file.specs.Lines.{HoldEvents}
use Rattle.event_file.proofs.ahead.read_ahead.Given as goal

-- the events of the first lines were read
abbrev pub invariant-loop-event : goal.invariant-loop-event
invariant-loop-event l = record {
  hold : HoldEvents (lines_of l.text) (map arc_value l.events.items) (lines_of l.rest);
  shorter : length l.events.items + length l.rest ≤ length l.text;
  behind : l.rest ≡ drop (length l.text - length l.rest) l.text;
}

abbrev pub decreases-loop-event : goal.decreases-loop-event
decreases-loop-event l = length l.rest
