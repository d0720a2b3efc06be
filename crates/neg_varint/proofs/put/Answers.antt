use Rattle.std.proofs.Common.{◌++◌, List, ℕ, ap, sym, ◌∙◌}
use Rattle.neg_varint.proofs.Sole.{short_spelling, spelling_spells}
use Rattle.neg_varint.proofs.put.Goals as goal

pub returns-in_err-push-clause-spelled : goal.returns-in_err-push-clause-spelled
returns-in_err-push-clause-spelled c = spelling_spells c.args.n c.ranges.n.fits

pub returns-then-n-lt128-clause-ok : goal.returns-then-n-lt128-clause-ok
returns-then-n-lt128-clause-ok c = c.in_ok-push.ensures.items ∙ ap (λ (x : List ℕ). c.args.out.now.items ++ x) (sym (short_spelling c.args.n c.if-n-lt128.true))

pub returns-then-n-lt128-clause-spelled : goal.returns-then-n-lt128-clause-spelled
returns-then-n-lt128-clause-spelled c = spelling_spells c.args.n c.ranges.n.fits
