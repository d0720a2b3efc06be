use Rattle.std.proofs.Common.{◌≡◌, ◌∷◌, arith}
use Rattle.json.specs.Reads.{token_of}
use Rattle.serde_json.specs.Data.{object}
use Rattle.event_text.proofs.Members.{some_with}
use Rattle.event_text.proofs.Texts.{object_next}
use Rattle.event_text.proofs.reading.event_in.Goals as goal

pub returns-in_ok-fields_in-in-BeginObject-clause-ok : goal.returns-in_ok-fields_in-in-BeginObject-clause-ok
returns-in_ok-fields_in-in-BeginObject-clause-ok c =
    let first : c.args.reader.now ≡ token_of c.in_ok-next.field-0 ∷ c.next.new.self = grind arith in
    let read = c.in_ok-fields_in-in-BeginObject.ensures.ok in
    let is = object_next c.args.depth c.args.reader.now c.next.new.self c.fields_in.new.reader read.0 (omega arith) (grind (arith, first)) read.2 in
    some_with c.event_of.result _ _ (λ r tells. (object read.0, is, tells read.0 read.1)) c.event_of.ensures
