use Rattle.std.proofs.lemmas.Result.{err_from_is_err_and}
use Rattle.serde_json.specs.View.{view}
use Rattle.nostr_event.specs.EventJson.{Passes}
use Rattle.nostr_event.proofs.Laws.{fields_pass}
use Rattle.nostr_event.proofs.reading.read_event.Goals as goal

pub returns-in_err-event-clause-err : goal.returns-in_err-event-clause-err
returns-in_err-event-clause-err c =
    let passes : Passes (view c.args.value.now) = fields_pass (view c.args.value.now) _ c.in_ok-id.ensures.ok in
    let p = err_from_is_err_and c.from_residual-in_err-event.result c.from_residual-in_err-event.ensures.1 in
    rw (p.1, p.2) passes
