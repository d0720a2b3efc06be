use Rattle.std.proofs.Common.{◌≡◌, ◌<◌, ◌+◌, ◌∙◌, [], ◌∷◌, ◌++◌, length, map, take, ap, rules, sym}
use Rattle.std.proofs.lemmas.List.{take_more, map-append}
use Rattle.serde_json.specs.Data.{string}
use Rattle.serde_json.specs.View.{view}
use Rattle.nostr_event.proofs.Find.{as_str-some, text_here, one_more}
use Rattle.nostr_event.proofs.fields.texts_of.Goals as goal

pub text_of-requires : goal.text_of-requires
text_of-requires c =
    let within : c.loop-value.value-index < length c.args.values.now = search rules in
    rw c.value-item.is (text_here c.args.values.now c.loop-value.value-index c.value-item.result within c.requires)

pub loop-value-preserved : goal.loop-value-preserved
loop-value-preserved c =
    let values = c.args.values.now in
    let i = c.loop-value.value-index in
    let v = c.value-item.result in
    let texts = c.loop-value.texts.items in
    let t = c.text_of.result in
    let within : i < length values = search rules in
    let one : view v ≡ string t.now = as_str-some (view v) t.now c.text_of.ensures in
    let more : take (i + 1) values ≡ take i values ++ v ∷ [] = take_more values i v within ∙ ap (λ u. take i values ++ u ∷ []) (sym c.value-item.is) in
    let grown : c.push.new.self.items ≡ texts ++ t ∷ [] = search rules in
    rw (more, grown, map-append (λ u. u.now) texts (t ∷ [])) (one_more string (take i values) v (map (λ u. u.now) texts) t.now c.loop-value.invariant one)
