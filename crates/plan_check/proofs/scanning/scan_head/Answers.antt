use Rattle.plan_check.proofs.FormLemmas.{wrong_at_header, wrong_at_bases}
use Rattle.plan_check.proofs.Runs.{no_run}
use Rattle.plan_check.proofs.scanning.scan_head.Goals as goal

pub returns-in_default-skip_line-clause-err : goal.returns-in_default-skip_line-clause-err
returns-in_default-skip_line-clause-err c = wrong_at_header _ c.in_default.ensures.none c.in_default-skip_line.ensures.none

pub returns-then-bases-eq0-clause-err : goal.returns-then-bases-eq0-clause-err
returns-then-bases-eq0-clause-err c = wrong_at_bases _ _ c.in-Some-skip_line.ensures.found (no_run _ _ _ _ c.scan_bases-bases.ensures.run c.if-bases-eq0.true)
