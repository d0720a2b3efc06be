use Rattle.std.proofs.Common.{◌≡◌, sym, subst, ap, ◌∙◌}
use Rattle.std.proofs.lemmas.Result.{IfOk-weaker}
use Rattle.toml.specs.Data.{string}
use Rattle.toml.specs.View.{view}
use Rattle.toml.proofs.Views.{view-String}
use Rattle.mirror_settings.specs.Relays.{IsRelay}
use Rattle.mirror_settings.proofs.Urls.{if_none}
use Rattle.mirror_settings.proofs.values.named_by.Goals as goal

pub returns-in-String-clause-none : goal.returns-in-String-clause-none
returns-in-String-clause-none c =
    let is : view c.args.value.now ≡ string c.as_str.result.now = ap view c.in-String.is ∙ view-String c.in-String.text ∙ ap string (sym c.as_str.ensures.value) in
    IfOk-weaker c.relay_in_text.result _ _ (λ o. if_none o _ _ (λ none r named. none r (subst (λ d. IsRelay d r) is named))) c.relay_in_text.ensures.none
