use Rattle.std.proofs.Common.{map}
use Rattle.std.specs.Arc.{arc_value}
use Rattle.wire.specs.Line.{talk_of}
use Rattle.wire.specs.Talk.{Grows}
use Rattle.ws_link.specs.Taken.{AreDue}
use Rattle.ws_link.proofs.Fetching.{Kept}
use Rattle.ws_link.proofs.source.read_events.Given as goal

abbrev pub invariant-loop-read : goal.invariant-loop-read
invariant-loop-read g l = record {
  grows : Grows (talk_of l.fn.wire) (talk_of l.wire);
  kept : Kept l.ids (talk_of l.fn.wire) (map arc_value l.events.items) (talk_of l.wire);
  due : AreDue l.ids (map arc_value l.events.items) l.due.keys;
}
