use Rattle.std.proofs.Common.{◌≡◌, ◌∷◌, arith}
use Rattle.json.specs.Reads.{token_of}
use Rattle.event_text.proofs.Texts.{string_next}
use Rattle.event_text.proofs.tags.text_in.Goals as goal

pub returns-in-String-clause-ok : goal.returns-in-String-clause-ok
returns-in-String-clause-ok c depth =
    let first : c.args.reader.now ≡ token_of c.in_ok-text.field-0 ∷ c.next.new.self = grind arith in
    string_next depth c.args.reader.now c.next.new.self c.in-String.text.now (grind (arith, first))
