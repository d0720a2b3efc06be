use Rattle.std.proofs.lemmas.Result.{IfOk-weaker, IfErr-weaker}
use Rattle.serde_json.specs.View.{view}
use Rattle.nostr_filter.proofs.Laws.{one_filter, refused_none}
use Rattle.nostr_filter.proofs.filter.Filter.take_json.Goals as goal

pub returns-clause-no_other : goal.returns-clause-no_other
returns-clause-no_other c =
    IfOk-weaker c.read_filter-read.result _ _ (λ f reads other also. one_filter (view c.args.value.now) f other reads also) c.read_filter-read.ensures.ok

pub returns-clause-no_filter : goal.returns-clause-no_filter
returns-clause-no_filter c =
    IfErr-weaker c.read_filter-read.result _ _ (λ e refused. refused_none (view c.args.value.now) e refused) c.read_filter-read.ensures.err
