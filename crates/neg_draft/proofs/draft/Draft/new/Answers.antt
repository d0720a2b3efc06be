use Rattle.std.proofs.Common.{arith}
use Rattle.neg_draft.proofs.Covering.{draft_none}
use Rattle.neg_draft.proofs.draft.Draft.new.Goals as goal

pub invariant_of-result : goal.invariant_of-result
invariant_of-result c = rw (c.none.ensures, c.lowest.ensures) (draft_none c.args.limit c.requires, omega arith)
