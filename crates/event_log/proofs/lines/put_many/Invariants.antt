use Rattle.std.proofs.Common.{◌≡◌, ◌++◌, take}
use Rattle.event_log.specs.Text.{text_of}
use Rattle.event_log.proofs.lines.put_many.Given as goal

abbrev pub invariant-loop-place : goal.invariant-loop-place
invariant-loop-place l = text_of (take l.place l.events) ≡ text_of (take l.start l.events) ++ l.text.items
