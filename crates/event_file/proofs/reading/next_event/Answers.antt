use Rattle.event_file.proofs.Behind.{behind_line}
use Rattle.event_file.proofs.reading.next_event.Goals as goal

pub returns-in-Ok-clause-behind : goal.returns-in-Ok-clause-behind
returns-in-Ok-clause-behind c = behind_line c.args.text.now c.in_ok-line.line.now c.in_ok-line.rest.now c.in_ok-line.ensures.parts
