use Rattle.std.proofs.Common.{◌≡◌, ◌∙◌, [], ◌∷◌, ◌++◌, is_some, true, true≢false, append_assoc, map, sym, ap, subst, arith}
use Rattle.std.proofs.lemmas.Grind.{common_steps}
use Rattle.serde_json.specs.Data.{string}
use Rattle.serde_json.specs.Find.{as_str}
use Rattle.serde_json.specs.View.{view, items_of, items_view}
use Rattle.nostr_event.proofs.Find.{as_str-some, one_more}
use Rattle.nostr_filter.specs.FilterJson.{each_item}
use Rattle.nostr_filter.proofs.Items.{string_at, texts_back}
use Rattle.nostr_filter.proofs.taking.list_of.Goals as goal

pub unreachable-requires : goal.unreachable-requires
unreachable-requires c =
    let seen = c.loop-value.yielded in
    let whole = c.loop-value.invariant.1 ∙ ap (λ vs. seen ++ vs) c.in-Some.ensures.steps.0 in
    let some = string_at seen c.in-Some.value _ (subst (λ vs. is_some (each_item as_str (items_view vs)) ≡ true) whole c.requires) in
    true≢false (sym (subst (λ o. is_some o ≡ true) (sym c.in_default.ensures) some))

pub loop-value-preserved : goal.loop-value-preserved
loop-value-preserved c =
    let seen = c.loop-value.yielded in
    let v = c.in-Some.value in
    let whole = c.loop-value.invariant.1 ∙ ap (λ vs. seen ++ vs) c.in-Some.ensures.steps.0 in
    let text = c.in-Some-text_of.text in
    let one = as_str-some (view v) text (sym c.in-Some-text_of.ensures) in
    rw c.in_ok-push.ensures.items (one_more string seen v c.loop-value.texts.items text c.loop-value.invariant.0 one, whole ∙ sym (append_assoc seen (v ∷ []) _))

pub returns : goal.returns
returns c =
    let whole : items_view c.args.values.items ≡ items_of (map string c.loop-value.texts.items) = grind (arith, common_steps) in
    ap (each_item as_str) whole ∙ texts_back c.loop-value.texts.items
