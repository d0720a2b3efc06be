use Rattle.std.proofs.Common.{◌≡◌, ◌<◌, ◌∷◌, ◌++◌, [], length, map, None, Some, arith, rules}
use Rattle.json.specs.Json.{after_end_array}
use Rattle.event_text.specs.Tokens.{IsNext, tag_data}
use Rattle.event_text.proofs.Texts.{turn_gives, all_gives}
use Rattle.event_text.proofs.tags.each_tag_in.Goals as goal

pub tags-preserved : goal.tags-preserved
tags-preserved c =
    let l = c.tags in
    let r = c.tag_in.new.reader in
    let x = map (λ t. t.now) c.in_ok-texts.texts.items in
    let going : after_end_array l.reader ≡ None = grind arith in
    let stood : c.take_end_array.new.self ≡ l.reader = grind arith in
    let less : length r < length l.reader = rw (← stood) c.in_ok-texts.ensures.shorter in
    let found : IsNext c.args.depth l.reader (tag_data x) r = rw (← stood) (c.in_ok-texts.ensures.ok) in
    let grown : c.in_ok-tags.tags ≡ l.tags ++ x ∷ [] = search rules in
    let step = turn_gives tag_data c.args.depth c.args.reader.now l.reader r l.tags x going found less l.invariant.0 in
    (λ more rest gives. rw grown (step more rest gives), omega (arith, less, l.invariant.1))

pub returns-clause-ok : goal.returns-clause-ok
returns-clause-ok c =
    let l = c.tags in
    let over : after_end_array l.reader ≡ Some c.take_end_array.new.self = grind arith in
    let same : c.fitted.result ≡ l.tags = search rules in
    rw same (all_gives tag_data c.args.depth c.args.reader.now l.reader c.take_end_array.new.self l.tags over l.invariant.0)
