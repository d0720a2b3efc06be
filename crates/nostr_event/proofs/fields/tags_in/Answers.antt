use Rattle.std.proofs.Common.{◌≡◌, ◌<◌, ◌+◌, ◌∙◌, [], ◌∷◌, ◌++◌, length, map, take, ap, true, false, option_map, unwrap_or, rules, subst, sym}
use Rattle.std.proofs.lemmas.List.{take_more}
use Rattle.serde_json.specs.Data.{array}
use Rattle.serde_json.specs.View.{view}
use Rattle.nostr_event.specs.EventJson.{is_tag, are_texts, tag_items}
use Rattle.nostr_event.proofs.Find.{as_array-some, tag_here, tag_array, one_more}
use Rattle.nostr_event.proofs.fields.tags_in.Goals as goal

pub values_of-requires : goal.values_of-requires
values_of-requires c =
    let within : c.loop-value.value-index < length c.args.values.now = search rules in
    let is : is_tag (view c.value-item.result) ≡ true = rw c.value-item.is (tag_here c.args.values.now c.loop-value.value-index c.value-item.result within c.requires) in
    tag_array (view c.value-item.result) is

pub texts_of-requires : goal.texts_of-requires
texts_of-requires c =
    let within : c.loop-value.value-index < length c.args.values.now = search rules in
    let is : is_tag (view c.value-item.result) ≡ true = rw c.value-item.is (tag_here c.args.values.now c.loop-value.value-index c.value-item.result within c.requires) in
    subst (λ o. unwrap_or (option_map are_texts o) false ≡ true) c.values_of.ensures is

pub loop-value-preserved : goal.loop-value-preserved
loop-value-preserved c =
    let values = c.args.values.now in
    let i = c.loop-value.value-index in
    let v = c.value-item.result in
    let texts = map (λ t. t.now) c.in_ok-texts.texts.items in
    let within : i < length values = search rules in
    let one : view v ≡ array (tag_items texts) = as_array-some (view v) _ c.values_of.ensures ∙ ap array c.in_ok-texts.ensures in
    let more : take (i + 1) values ≡ take i values ++ v ∷ [] = take_more values i v within ∙ ap (λ u. take i values ++ u ∷ []) (sym c.value-item.is) in
    let grown : c.in_ok-tags.tags ≡ c.loop-value.tags ++ texts ∷ [] = search rules in
    rw (more, grown) (one_more (λ t. array (tag_items t)) (take i values) v c.loop-value.tags texts c.loop-value.invariant one)
