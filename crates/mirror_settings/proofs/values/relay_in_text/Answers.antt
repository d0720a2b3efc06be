use Rattle.std.proofs.Common.{true, false, codes, inl, inr, refl}
use Rattle.std.proofs.lemmas.Result.{IfOk-weaker}
use Rattle.std.proofs.lemmas.Str.Pattern.{contains_text}
use Rattle.mirror_settings.proofs.Urls.{if_some, if_none, url_has_scheme}
use Rattle.mirror_settings.proofs.values.relay_in_text.Goals as goal

pub returns-then-contains-clause-none : goal.returns-then-contains-clause-none
returns-then-contains-clause-none c =
    let has = (contains_text true (codes "://") c.args.text.now c.if-contains.ensures.cases).0 refl in
    IfOk-weaker c.url_relay.result _ _ (λ o. if_none o _ _ (λ none r is. elim is [
      | inl plain ↦ plain.1 has
      | inr url ↦ none r url
    ])) c.url_relay.ensures.none

pub returns-else-contains-clause-found : goal.returns-else-contains-clause-found
returns-else-contains-clause-found c =
    let is = contains_text false (codes "://") c.args.text.now c.if-contains.ensures.cases in
    IfOk-weaker c.plain_relay.result _ _ (λ o. if_some o _ _ (λ r plain. inl (plain, λ has. (let yes = is.1 has in cc)))) c.plain_relay.ensures.found

pub returns-else-contains-clause-none : goal.returns-else-contains-clause-none
returns-else-contains-clause-none c =
    let both = contains_text false (codes "://") c.args.text.now c.if-contains.ensures.cases in
    IfOk-weaker c.plain_relay.result _ _ (λ o. if_none o _ _ (λ none r is. elim is [
      | inl plain ↦ none r plain.0
      | inr url ↦ (let yes = both.1 (url_has_scheme c.args.text.now r url) in cc)
    ])) c.plain_relay.ensures.none
