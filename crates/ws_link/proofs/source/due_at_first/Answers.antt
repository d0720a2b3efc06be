use Rattle.std.proofs.Common.{rules}
use Rattle.ws_link.proofs.Due.{all_are_due}
use Rattle.ws_link.proofs.source.due_at_first.Goals as goal

pub returns : goal.returns
returns c = all_are_due c.args.ids.now c.in_ok-due.due (search rules)
