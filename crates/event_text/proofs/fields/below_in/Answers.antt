use Rattle.std.proofs.Common.{◌≡◌, ◌∷◌, Some, arith}
use Rattle.json.specs.Reads.{token_of}
use Rattle.serde_json.specs.Data.{unsigned}
use Rattle.serde_json.specs.Read.{number_of}
use Rattle.event_text.proofs.Texts.{number_next}
use Rattle.event_text.proofs.fields.below_in.Goals as goal

pub returns-then-found-limit-clause-ok : goal.returns-then-found-limit-clause-ok
returns-then-found-limit-clause-ok c depth =
    let first : c.args.reader.now ≡ token_of c.in_ok-text.field-0 ∷ c.next.new.self = grind arith in
    let found : number_of c.in-Number.text.now ≡ Some (unsigned c.in_ok-found-in-Number.found) = c.in_ok-found-in-Number.ensures in
    number_next depth c.args.reader.now c.next.new.self c.in-Number.text.now (unsigned c.in_ok-found-in-Number.found) (grind (arith, first)) found
