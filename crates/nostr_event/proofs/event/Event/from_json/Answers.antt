use Rattle.std.proofs.lemmas.Result.{IfOk-weaker, IfErr-weaker}
use Rattle.serde_json.specs.View.{view}
use Rattle.nostr_event.proofs.Laws.{one_event, refused_none}
use Rattle.nostr_event.proofs.event.Event.from_json.Goals as goal

pub returns-clause-no_other : goal.returns-clause-no_other
returns-clause-no_other c =
    IfOk-weaker c.read_event-read.result _ _ (λ e reads other also. one_event (view c.args.value.now) e other reads.0 also.0) c.read_event-read.ensures.ok

pub returns-clause-no_event : goal.returns-clause-no_event
returns-clause-no_event c =
    IfErr-weaker c.read_event-read.result _ _ (λ f refused. refused_none (view c.args.value.now) f refused) c.read_event-read.ensures.err
