use Rattle.std.proofs.Common.{refl}
use Rattle.mirror_run.proofs.PlacingLemmas.{taken_distinct, taken_from_ok}
use Rattle.mirror_run.proofs.placing.place_items.Goals as goal

pub refusal_of-requires-in-Err-Present-clause-some : goal.refusal_of-requires-in-Err-Present-clause-some
refusal_of-requires-in-Err-Present-clause-some c =
    let present = rw c.in-Err-Present.field-0-is at c.in-Err-Present.ensures.present in
    let found = present.0 refl in
    taken_distinct c.args.items.now found.2

pub returns-in-Ok-clause-taken : goal.returns-in-Ok-clause-taken
returns-in-Ok-clause-taken c =
    taken_from_ok c.args.items.now _ c.from_items.result c.in-Ok.is c.from_items.ensures.infinity.1 c.from_items.ensures.present.1 c.from_items.ensures.full.1
