use Rattle.event_file.proofs.WrongIds.{none_of_wrong_id}
use Rattle.event_file.proofs.reading.event_of.Goals as goal

pub returns-in-Some-Err-clause-none : goal.returns-in-Some-Err-clause-none
returns-in-Some-Err-clause-none c same e is =
    none_of_wrong_id c.args.line.now e c.in-Some-Err.field-0-0 (rw c.in-Some-Err.field-0-is at c.in-Some-Err.ensures) is
