use Rattle.std.proofs.Common.{drop, map}
use Rattle.std.specs.Arc.{arc_value}
use Rattle.event_file.proofs.Compared.{Agrees}
use Rattle.event_file.proofs.writing.is_text_of.Given as goal

abbrev pub invariant-loop-place : goal.invariant-loop-place
invariant-loop-place l = Agrees l.text l.rest (map arc_value l.events) (drop l.place (map arc_value l.events))
