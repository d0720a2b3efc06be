use Rattle.std.proofs.Common.{arith}
use Rattle.plan_check.proofs.LineLemmas.{cut_there, unended, no_feed}
use Rattle.plan_check.proofs.text_lines.cut_line.Goals as goal

pub returns-in_default-clause-none : goal.returns-in_default-clause-none
returns-in_default-clause-none c = unended c.args.text.now (no_feed c.args.text.now (λ k within feed. c.in_default.ensures k (omega arith) within feed))

pub returns-clause-lines : goal.returns-clause-lines
returns-clause-lines c =
    let h = c.in-Some.ensures in
    rw c.split_at.ensures.back (cut_there c.args.text.now c.in-Some.at h.0.high (λ k below feed. h.0.before k (omega arith) below feed) h.1)
