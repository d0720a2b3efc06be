use Rattle.ws_link.proofs.Due.{found_is_due, others_are_due}
use Rattle.ws_link.proofs.source.comes_due.Goals as goal

pub returns : goal.returns
returns c =
    let removed = rw c.id.ensures.value at c.remove.ensures in
    record {
      due = λ asked kept due. found_is_due asked kept c.args.due.now c.args.event.now c.remove.result removed.test due;
      left = λ asked kept due. others_are_due asked kept c.args.due.now c.remove.new.self c.args.event.now c.remove.result removed.test removed.updates removed.unchanged due;
    }
