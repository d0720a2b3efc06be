use Rattle.plan_check.proofs.TextLemmas.{text_by_lines}
use Rattle.plan_check.proofs.ReadLemmas.{made_by}
use Rattle.plan_check.proofs.reading.file_of.Goals as goal

pub in_order-file-requires : goal.in_order-file-requires
in_order-file-requires c = rw c.in-Some.is at c.in_ok-lists.ensures.file

pub returns : goal.returns
returns c =
    let lines = rw c.in-Some.is at c.in_ok-lists.ensures.lines in
    let form = rw c.in-Some.is at c.in_ok-lists.ensures.form in
    let ordered = rw c.in-Some.is at c.in_ok-lists.ensures.file in
    made_by c.args.text.now _ c.in_order-file.result form (text_by_lines c.args.text.now _ lines) c.in_order-file.ensures (rw c.in_order-file.ensures ordered)
