use Rattle.std.proofs.Common.{◌≡◌, ◌++◌, codes, Some, None, lit<}
use Rattle.std.proofs.lemmas.Result.{IfOk-weaker}
use Rattle.std.proofs.lemmas.Str.Pattern.{split_parts}
use Rattle.mirror_settings.proofs.Urls.{stripped, if_some, if_none, url_with_path, url_alone, no_url_with_path, no_url_alone}
use Rattle.mirror_settings.proofs.url.url_relay.Goals as goal

pub returns-in-Some-split_once-clause-found : goal.returns-in-Some-split_once-clause-found
returns-in-Some-split_once-clause-found c =
    let text = c.args.text.now in
    let rest = c.in-Some.rest.now in
    let h = c.in-Some.ensures.cases in
    let is : text ≡ codes "ws://" ++ rest = stripped (codes "ws://") text rest h.0 h.1 h.2 in
    let graphic = c.is_graphic.ensures.0 c.if-not-is_graphic.false in
    let parts = split_parts 47 rest (Some (c.in-Some-split_once.host, c.in-Some-split_once.after)) c.in-Some-split_once.ensures.cases (lit< tt) in
    IfOk-weaker c.relay_of.result _ _ (λ o. if_some o _ _ (λ r is_of.
    url_with_path text rest c.in-Some-split_once.host.now c.in-Some-split_once.after.now r graphic is parts.0 parts.1 is_of.0 is_of.1 is_of.2)) c.relay_of.ensures.found

pub returns-in-Some-split_once-clause-none : goal.returns-in-Some-split_once-clause-none
returns-in-Some-split_once-clause-none c =
    let text = c.args.text.now in
    let rest = c.in-Some.rest.now in
    let h = c.in-Some.ensures.cases in
    let is : text ≡ codes "ws://" ++ rest = stripped (codes "ws://") text rest h.0 h.1 h.2 in
    let parts = split_parts 47 rest (Some (c.in-Some-split_once.host, c.in-Some-split_once.after)) c.in-Some-split_once.ensures.cases (lit< tt) in
    IfOk-weaker c.relay_of.result _ _ (λ o. if_none o _ _ (λ none. no_url_with_path text rest c.in-Some-split_once.host.now c.in-Some-split_once.after.now is parts.0 parts.1 none)) c.relay_of.ensures.none

pub returns-in-None-clause-found : goal.returns-in-None-clause-found
returns-in-None-clause-found c =
    let text = c.args.text.now in
    let rest = c.in-Some.rest.now in
    let h = c.in-Some.ensures.cases in
    let is : text ≡ codes "ws://" ++ rest = stripped (codes "ws://") text rest h.0 h.1 h.2 in
    let graphic = c.is_graphic.ensures.0 c.if-not-is_graphic.false in
    let lacks = split_parts 47 rest None c.in-None.ensures.cases (lit< tt) in
    IfOk-weaker c.relay_of-in-None.result _ _ (λ o. if_some o _ _ (λ r is_of. url_alone text rest r graphic is lacks is_of.0 is_of.1 is_of.2)) c.relay_of-in-None.ensures.found

pub returns-in-None-clause-none : goal.returns-in-None-clause-none
returns-in-None-clause-none c =
    let text = c.args.text.now in
    let rest = c.in-Some.rest.now in
    let h = c.in-Some.ensures.cases in
    let is : text ≡ codes "ws://" ++ rest = stripped (codes "ws://") text rest h.0 h.1 h.2 in
    let lacks = split_parts 47 rest None c.in-None.ensures.cases (lit< tt) in
    IfOk-weaker c.relay_of-in-None.result _ _ (λ o. if_none o _ _ (λ none. no_url_alone text rest is lacks none)) c.relay_of-in-None.ensures.none
