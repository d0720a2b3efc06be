use Rattle.std.proofs.Common.{Err, ap, ◌∙◌}
use Rattle.event_file.proofs.reading.holds_event.Goals as goal

pub returns-in-Err-Wrong : goal.returns-in-Err-Wrong
returns-in-Err-Wrong c = c.event_of.ensures.none (c.in-Err-Wrong.is ∙ ap Err c.in-Err-Wrong.field-0-is)
