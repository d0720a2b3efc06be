use Rattle.std.proofs.Common.{ap, ◌∙◌}
use Rattle.std.specs.Prelude.{OnErr, Ok, Err, Result}
use Rattle.std.specs.Arc.{arc_with_value}
use Rattle.event_list.proofs.chunk.put_last.Goals as goal

on_err : {X E P Q : Type 0} → (r : Result X E) → (P → Q) → OnErr r P → OnErr r Q
on_err (Ok x) f h = tt
on_err (Err e) f h = f h

pub returns-in-Some-clause-err : goal.returns-in-Some-clause-err
returns-in-Some-clause-err g c = on_err c.push.result (λ e. ap (arc_with_value c.args.chunk.now) (e ∙ c.in-Some.ensures.value)) c.push.ensures.err
