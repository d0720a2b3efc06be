use Rattle.std.proofs.Common.{IfErr, subst}
use Rattle.std.proofs.lemmas.Result.{err_from_is_err_and}
use Rattle.serde_json.specs.View.{view}
use Rattle.nostr_filter.specs.FilterJson.{Refuses}
use Rattle.nostr_filter.proofs.Laws.{refused_none}
use Rattle.nostr_filter.proofs.filter.Filter.from_json.Goals as goal

pub returns-in_err-_is_tagged-clause-no_filter : goal.returns-in_err-_is_tagged-clause-no_filter
returns-in_err-_is_tagged-clause-no_filter c =
    let p = err_from_is_err_and c.from_residual.result c.from_residual.ensures.1 in
    rw (p.1, p.2) (refused_none (view c.args.value.now) _ c.in_err-_is_tagged.ensures.err)

pub returns-clause-fault : goal.returns-clause-fault
returns-clause-fault c = subst (λ d. IfErr c.take_json-read.result (Refuses d)) c.in_ok-copy.ensures.cases c.take_json-read.ensures.fault
