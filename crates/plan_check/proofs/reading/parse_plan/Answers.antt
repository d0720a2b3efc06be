use Rattle.std.proofs.Common.{Ok, Err, ap}
use Rattle.plan_check.specs.PlanText.{IsTextOf}
use Rattle.plan_check.proofs.Ascii.{text_utf8}
use Rattle.plan_check.proofs.ReadLemmas.{read_back, refused_so, no_fault, one_fault_each}
use Rattle.plan_check.proofs.reading.parse_plan.Goals as goal
use Rattle.plan_check.proofs.reading.parse_plan.Goals.{In-Ok-Some}

told : (c : In-Ok-Some) → IsTextOf c.args.text.now c.in-Ok-Some.file
told c = rw c.in-Ok-Some.field-0-is at c.in-Ok-Some.ensures

pub returns-in-Ok-Some-clause-utf8 : goal.returns-in-Ok-Some-clause-utf8
returns-in-Ok-Some-clause-utf8 c = text_utf8 c.args.text.now c.in-Ok-Some.file (told c)

pub returns-in-Ok-Some-clause-exact : goal.returns-in-Ok-Some-clause-exact
returns-in-Ok-Some-clause-exact c = λ file is. read_back c.args.text.now file (Ok c.in-Ok-Some.file) is (told c)

pub returns-in-Ok-Some-clause-refused : goal.returns-in-Ok-Some-clause-refused
returns-in-Ok-Some-clause-refused c = λ fault is. refused_so c.args.text.now fault (Ok c.in-Ok-Some.file) is (told c)

pub returns-in-Ok-clause-refused : goal.returns-in-Ok-clause-refused
returns-in-Ok-clause-refused c = λ fault is. absurd (no_fault c.args.text.now c.in-Ok.ensures.ok.0 fault c.in-Ok.ensures.ok.1 is)

pub returns-in-Err-clause-exact : goal.returns-in-Err-clause-exact
returns-in-Err-clause-exact c = λ file is. absurd (no_fault c.args.text.now file c.in-Err.fault is c.in-Err.ensures.err)

pub returns-in-Err-clause-refused : goal.returns-in-Err-clause-refused
returns-in-Err-clause-refused c = λ fault is. ap Err (one_fault_each c.args.text.now c.in-Err.fault fault c.in-Err.ensures.err is)
