use Rattle.std.proofs.Common.{take}
use Rattle.mirror_run.specs.Waiting.{Sends}
use Rattle.event_log.specs.Text.{text_of}
use Rattle.event_file.proofs.writing.write_all.Given as goal

abbrev pub invariant-loop-place : goal.invariant-loop-place
invariant-loop-place g l =
    Sends (g.W.Write.contents l.initial.out) l.initial.wait.items (g.W.Write.contents l.out) l.wait.items (text_of (take l.place l.events))
