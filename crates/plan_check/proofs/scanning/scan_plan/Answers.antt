use Rattle.plan_check.proofs.Scanned.{only_count, only_fault}
use Rattle.plan_check.proofs.scanning.scan_plan.Goals as goal

pub returns-clause-exact : goal.returns-clause-exact
returns-clause-exact c = only_count c.args.text.now c.scan.result (rw c.as_bytes.ensures.value at c.scan.ensures.ok) (rw c.as_bytes.ensures.value at c.scan.ensures.err)

pub returns-clause-refused : goal.returns-clause-refused
returns-clause-refused c = only_fault c.args.text.now c.scan.result (rw c.as_bytes.ensures.value at c.scan.ensures.ok) (rw c.as_bytes.ensures.value at c.scan.ensures.err)
