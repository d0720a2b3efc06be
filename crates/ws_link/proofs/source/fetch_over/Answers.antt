use Rattle.std.proofs.Common.{◌∙◌, List, [], ◌∷◌, ◌++◌, ap, refl}
use Rattle.std.proofs.lemmas.Result.{IfOk-from_err}
use Rattle.std.specs.declared.alloc.Global.{Global}
use Rattle.std.specs.declared.sync.Arc.{Arc as AnArc}
use Rattle.nostr_event.specs.EventView.{EventView}
use Rattle.event_source.specs.Fetching.{Fetching, fetching, ids_of}
use Rattle.wire.specs.Line.{talk_of}
use Rattle.wire.proofs.Growing.{grows_chain}
use Rattle.ws_link.proofs.Failing.{on_err_also}
use Rattle.ws_link.proofs.source.fetch_over.Goals as goal

pub returns-in_err-ask-clause-fetched : goal.returns-in_err-ask-clause-fetched
returns-in_err-ask-clause-fetched g c = IfOk-from_err c.from_residual.result _ c.from_residual.ensures.0

pub returns-in_err-ask-clause-logged : goal.returns-in_err-ask-clause-logged
returns-in_err-ask-clause-logged g c = IfOk-from_err c.from_residual.result _ c.from_residual.ensures.0

pub returns-in_err-ask-clause-kept : goal.returns-in_err-ask-clause-kept
returns-in_err-ask-clause-kept g c = on_err_also c.from_residual.result refl

pub returns-in_err-ask-clause-grows : goal.returns-in_err-ask-clause-grows
returns-in_err-ask-clause-grows g c = c.ask.ensures.grows

pub returns-in_err-events-clause-fetched : goal.returns-in_err-events-clause-fetched
returns-in_err-events-clause-fetched g c = IfOk-from_err c.from_residual-in_err-events.result _ c.from_residual-in_err-events.ensures.0

pub returns-in_err-events-clause-logged : goal.returns-in_err-events-clause-logged
returns-in_err-events-clause-logged g c = IfOk-from_err c.from_residual-in_err-events.result _ c.from_residual-in_err-events.ensures.0

pub returns-in_err-events-clause-kept : goal.returns-in_err-events-clause-kept
returns-in_err-events-clause-kept g c = on_err_also c.from_residual-in_err-events.result refl

pub returns-in_err-events-clause-grows : goal.returns-in_err-events-clause-grows
returns-in_err-events-clause-grows g c = grows_chain (talk_of c.args.wire.now) (talk_of c.ask.new.wire) (talk_of c.read_events.new.wire) c.ask.ensures.grows c.read_events.ensures.grows

pub returns-in_err-end-clause-fetched : goal.returns-in_err-end-clause-fetched
returns-in_err-end-clause-fetched g c = IfOk-from_err c.from_residual-in_err-end.result _ c.from_residual-in_err-end.ensures.0

pub returns-in_err-end-clause-logged : goal.returns-in_err-end-clause-logged
returns-in_err-end-clause-logged g c = IfOk-from_err c.from_residual-in_err-end.result _ c.from_residual-in_err-end.ensures.0

pub returns-in_err-end-clause-kept : goal.returns-in_err-end-clause-kept
returns-in_err-end-clause-kept g c = on_err_also c.from_residual-in_err-end.result refl

pub returns-in_err-end-clause-grows : goal.returns-in_err-end-clause-grows
returns-in_err-end-clause-grows g c = grows_chain (talk_of c.args.wire.now) (talk_of c.read_events.new.wire) (talk_of c.end.new.wire) (grows_chain (talk_of c.args.wire.now) (talk_of c.ask.new.wire) (talk_of c.read_events.new.wire) c.ask.ensures.grows c.read_events.ensures.grows) c.end.ensures.grows

pub returns-in_err-of-clause-fetched : goal.returns-in_err-of-clause-fetched
returns-in_err-of-clause-fetched g c = IfOk-from_err c.from_residual-in_err-of.result _ c.from_residual-in_err-of.ensures.0

pub returns-in_err-of-clause-logged : goal.returns-in_err-of-clause-logged
returns-in_err-of-clause-logged g c = IfOk-from_err c.from_residual-in_err-of.result _ c.from_residual-in_err-of.ensures.0

pub returns-in_err-of-clause-kept : goal.returns-in_err-of-clause-kept
returns-in_err-of-clause-kept g c = on_err_also c.from_residual-in_err-of.result refl

pub returns-in_err-of-clause-grows : goal.returns-in_err-of-clause-grows
returns-in_err-of-clause-grows g c = grows_chain (talk_of c.args.wire.now) (talk_of c.read_events.new.wire) (talk_of c.end.new.wire) (grows_chain (talk_of c.args.wire.now) (talk_of c.ask.new.wire) (talk_of c.read_events.new.wire) c.ask.ensures.grows c.read_events.ensures.grows) c.end.ensures.grows

pub returns-in_err-push-clause-fetched : goal.returns-in_err-push-clause-fetched
returns-in_err-push-clause-fetched g c = IfOk-from_err c.from_residual-in_err-push.result _ c.from_residual-in_err-push.ensures.0

pub returns-in_err-push-clause-logged : goal.returns-in_err-push-clause-logged
returns-in_err-push-clause-logged g c = IfOk-from_err c.from_residual-in_err-push.result _ c.from_residual-in_err-push.ensures.0

pub returns-in_err-push-clause-kept : goal.returns-in_err-push-clause-kept
returns-in_err-push-clause-kept g c = on_err_also c.from_residual-in_err-push.result c.in_err-push.ensures.items

pub returns-in_err-push-clause-grows : goal.returns-in_err-push-clause-grows
returns-in_err-push-clause-grows g c = grows_chain (talk_of c.args.wire.now) (talk_of c.read_events.new.wire) (talk_of c.end.new.wire) (grows_chain (talk_of c.args.wire.now) (talk_of c.ask.new.wire) (talk_of c.read_events.new.wire) c.ask.ensures.grows c.read_events.ensures.grows) c.end.ensures.grows

pub returns-clause-fetched : goal.returns-clause-fetched
returns-clause-fetched g c = record {
  sent = talk_of c.ask.new.wire;
  heard = talk_of c.read_events.new.wire;
  requested = c.in_ok-ask.ensures.said;
  answered = c.in_ok-events.ensures.answers;
  closed = c.in_ok-end.ensures.said;
}

pub returns-clause-logged : goal.returns-clause-logged
returns-clause-logged g c =
    let same = c.in_ok-of.ensures ∙ ap (λ (es : List (AnArc EventView Global)). fetching c.args.ids.now (ids_of es)) c.deref.ensures.value in
    c.in_ok-push.ensures.items ∙ ap (λ (f : Fetching). c.args.fetches.now.items ++ f ∷ []) same

pub returns-clause-grows : goal.returns-clause-grows
returns-clause-grows g c = grows_chain (talk_of c.args.wire.now) (talk_of c.read_events.new.wire) (talk_of c.end.new.wire) (grows_chain (talk_of c.args.wire.now) (talk_of c.ask.new.wire) (talk_of c.read_events.new.wire) c.ask.ensures.grows c.read_events.ensures.grows) c.end.ensures.grows
