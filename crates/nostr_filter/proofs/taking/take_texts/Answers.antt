use Rattle.std.proofs.Common.{◌≡◌, ◌∙◌, Some, option_map, sym, ap}
use Rattle.serde_json.specs.Data.{object}
use Rattle.serde_json.specs.Find.{get, get_member}
use Rattle.serde_json.specs.View.{view, members_view}
use Rattle.nostr_filter.specs.FilterJson.{texts_of, optional}
use Rattle.nostr_filter.proofs.Taken.{found_is, others_kept, shape_of, list_shape, no_list, list_read}
use Rattle.nostr_filter.proofs.taking.take_texts.Goals as goal

pub returns-in_default-clause-ok : goal.returns-in_default-clause-ok
returns-in_default-clause-ok c =
    ap (optional texts_of) (found_is c.args.name.now c.args.members.now.entries _ c.remove.ensures.value ∙ ap (option_map view) c.in_default.is)

pub list_of-requires : goal.list_of-requires
list_of-requires c =
    let d = object (members_view c.args.members.now.entries) in
    let e = view c.in-Some.found in
    let here : get c.args.name.now d ≡ Some e = found_is c.args.name.now c.args.members.now.entries _ c.remove.ensures.value ∙ ap (option_map view) c.in-Some.is in
    list_shape e _ (sym c.in-Some-values_of.ensures) (shape_of c.args.name.now d e here c.requires)

pub unreachable-requires : goal.unreachable-requires
unreachable-requires c =
    let d = object (members_view c.args.members.now.entries) in
    let e = view c.in-Some.found in
    let here : get c.args.name.now d ≡ Some e = found_is c.args.name.now c.args.members.now.entries _ c.remove.ensures.value ∙ ap (option_map view) c.in-Some.is in
    no_list e (sym c.in-None.ensures) (shape_of c.args.name.now d e here c.requires)

pub returns-clause-ok : goal.returns-clause-ok
returns-clause-ok c =
    let d = object (members_view c.args.members.now.entries) in
    let e = view c.in-Some.found in
    let here : get c.args.name.now d ≡ Some e = found_is c.args.name.now c.args.members.now.entries _ c.remove.ensures.value ∙ ap (option_map view) c.in-Some.is in
    list_read c.args.name.now d e _ _ here (sym c.in-Some-values_of.ensures) c.in_ok-list_of-in-Some-values_of.ensures
    ∙ ap (λ t. Some (Some t)) (sym c.in_ok-searchable-in-Some-values_of.ensures)

pub returns-in_err-list_of-in-Some-values_of-clause-others : goal.returns-in_err-list_of-in-Some-values_of-clause-others
returns-in_err-list_of-in-Some-values_of-clause-others c other apart =
    ap (λ es. get_member other (members_view es)) c.remove.ensures.entries ∙ others_kept other c.args.name.now c.args.members.now.entries apart

pub returns-in_err-searchable-in-Some-values_of-clause-others : goal.returns-in_err-searchable-in-Some-values_of-clause-others
returns-in_err-searchable-in-Some-values_of-clause-others c other apart =
    ap (λ es. get_member other (members_view es)) c.remove.ensures.entries ∙ others_kept other c.args.name.now c.args.members.now.entries apart

pub returns-clause-others : goal.returns-clause-others
returns-clause-others c other apart =
    ap (λ es. get_member other (members_view es)) c.remove.ensures.entries ∙ others_kept other c.args.name.now c.args.members.now.entries apart
