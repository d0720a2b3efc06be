use Rattle.std.proofs.Common.{◌≡◌, ◌∷◌, map, arith}
use Rattle.std.proofs.lemmas.Option.{IfSome_then}
use Rattle.json.specs.Reads.{token_of}
use Rattle.serde_json.specs.Data.{string}
use Rattle.event_text.proofs.Texts.{array_next}
use Rattle.event_text.proofs.tags.tag_in.Goals as goal

pub returns-in-BeginArray-clause-ok : goal.returns-in-BeginArray-clause-ok
returns-in-BeginArray-clause-ok c =
    let first : c.args.reader.now ≡ token_of c.in_ok-next.field-0 ∷ c.next.new.self = grind arith in
    IfSome_then c.texts_in.result c.texts_in.ensures.ok
    (λ texts gives. array_next c.args.depth c.args.reader.now c.next.new.self c.texts_in.new.reader (map string (map (λ t. t.now) texts.items)) (omega arith) (grind (arith, first)) gives)
