use Rattle.std.proofs.Common.{Some, refl}
use Rattle.std.proofs.lemmas.Result.{err_from_is_err_and}
use Rattle.serde_json.specs.View.{view}
use Rattle.nostr_filter.specs.declared.fault.FilterField.TheVariants.{Kinds}
use Rattle.nostr_filter.proofs.ShapeTests.{refuse_or, tags_pass, named_refuse}
use Rattle.nostr_filter.proofs.reading.shapes_of.Goals as goal

pub returns-in_err-kinds-clause-err : goal.returns-in_err-kinds-clause-err
returns-in_err-kinds-clause-err c =
    let p = err_from_is_err_and c.from_residual-in_err-kinds.result c.from_residual-in_err-kinds.ensures.1 in
    let d = view c.args.value.now in
    let both = tags_pass d c.requires.0 in
    rw (p.1, p.2) (refuse_or d _ Kinds _ c.requires c.in_err-kinds.ensures.err (λ none. named_refuse d (Some Kinds) both.0 both.1 (rw (c.in_ok-authors.ensures.0, c.in_ok-ids.ensures.0, none) refl)))

pub returns-in_err-limit-clause-err : goal.returns-in_err-limit-clause-err
returns-in_err-limit-clause-err c =
    let p = err_from_is_err_and c.from_residual-in_err-limit.result c.from_residual-in_err-limit.ensures.1 in
    rw (p.1, p.2) c.in_err-limit.ensures.err
