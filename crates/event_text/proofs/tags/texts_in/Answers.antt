use Rattle.std.proofs.Common.{◌≡◌, ◌<◌, ◌∷◌, ◌++◌, [], length, map, None, Some, arith, rules}
use Rattle.std.proofs.lemmas.List.{map-append}
use Rattle.json.specs.Json.{after_end_array}
use Rattle.serde_json.specs.Data.{string}
use Rattle.event_text.specs.Tokens.{IsNext}
use Rattle.event_text.proofs.Texts.{turn_gives, all_gives}
use Rattle.event_text.proofs.tags.texts_in.Goals as goal

pub texts-preserved : goal.texts-preserved
texts-preserved c =
    let l = c.texts in
    let r = c.text_in.new.reader in
    let x = c.in_ok-text.text.now in
    let read = map (λ t. t.now) l.texts.items in
    let going : after_end_array l.reader ≡ None = grind arith in
    let stood : c.take_end_array.new.self ≡ l.reader = grind arith in
    let less : length r < length l.reader = rw (← stood) c.in_ok-text.ensures.shorter in
    let found : IsNext c.args.depth l.reader (string x) r = rw (← stood) (c.in_ok-text.ensures.ok c.args.depth) in
    let pushed : c.push.new.self.items ≡ l.texts.items ++ c.in_ok-text.text ∷ [] = search rules in
    let step = turn_gives string c.args.depth c.args.reader.now l.reader r read x going found less l.invariant.0 in
    (λ more rest gives. rw (pushed, map-append (λ t. t.now) l.texts.items (c.in_ok-text.text ∷ [])) (step more rest gives), omega (arith, less, l.invariant.1))

pub returns-clause-ok : goal.returns-clause-ok
returns-clause-ok c =
    let l = c.texts in
    let over : after_end_array l.reader ≡ Some c.take_end_array.new.self = grind arith in
    all_gives string c.args.depth c.args.reader.now l.reader c.take_end_array.new.self (map (λ t. t.now) l.texts.items) over l.invariant.0
