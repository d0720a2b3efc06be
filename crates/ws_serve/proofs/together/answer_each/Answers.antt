use Rattle.std.proofs.Common.{◌∙◌, map, refl}
use Rattle.std.proofs.lemmas.Result.{IfOk-from_err}
use Rattle.std.specs.Arc.{arc_value}
use Rattle.std.specs.Vec.Iter.{into_iter_items}
use Rattle.event_list.proofs.Prefixes.{prefix_self, prefix_trans}
use Rattle.ws_serve.specs.declared.together.Stored.{Stored}
use Rattle.ws_serve.specs.Gathered.{ids_of}
use Rattle.ws_serve.proofs.Beginning.{fails}
use Rattle.ws_serve.proofs.Failing.{stream_fault}
use Rattle.ws_serve.proofs.Gathering.{of_some}
use Rattle.ws_serve.proofs.Placing.{kept_same, of_more_in, of_begun_in, split_in}
use Rattle.ws_serve.proofs.together.answer_each.Goals as goal

pub returns-in_err-all-clause-failed : goal.returns-in_err-all-clause-failed
returns-in_err-all-clause-failed g c = fails c.from_residual.result (of_some (ids_of (map arc_value c.args.events.now)) c.args.socket.now)

pub returns-in_err-room-clause-failed : goal.returns-in_err-room-clause-failed
returns-in_err-room-clause-failed g c =
    let f = λ (s : Stored g.row.J.Denot). s.id in
    let split = split_in f c.in-Some.one c.loop-one.yielded (into_iter_items c.loop-one.one-iterator) (into_iter_items c.next.new.self) (ids_of (map arc_value c.args.events.now)) c.in-Some.ensures.steps.0 c.loop-one.invariant.split in
    fails c.from_residual-in_err-room.result
    (of_begun_in f c.in-Some.one c.loop-one.yielded (into_iter_items c.next.new.self) (ids_of (map arc_value c.args.events.now)) c.args.socket.now c.loop-one.socket c.tell.new.socket split c.loop-one.invariant.says c.in_err-room.ensures.failed)

pub loop-one-preserved : goal.loop-one-preserved
loop-one-preserved g c =
    let f = λ (s : Stored g.row.J.Denot). s.id in
    record {
      reader = prefix_trans _ _ _ c.loop-one.invariant.reader c.tell.ensures.reader;
      placed = (rw c.in-Some.ensures.steps.0 at c.loop-one.invariant.placed).1;
      says = of_more_in f c.loop-one.yielded c.in-Some.one c.args.socket.now c.loop-one.socket c.tell.new.socket c.loop-one.invariant.says c.in_ok-room.ensures.says;
      split = split_in f c.in-Some.one c.loop-one.yielded (into_iter_items c.loop-one.one-iterator) (into_iter_items c.next.new.self) (ids_of (map arc_value c.args.events.now)) c.in-Some.ensures.steps.0 c.loop-one.invariant.split;
      kept = kept_same _ _ c.in_ok-room.ensures.kept ∙ c.loop-one.invariant.kept;
      limits = c.tell.ensures.limits ∙ c.loop-one.invariant.limits;
    }

pub returns-in_err-all-clause-fault : goal.returns-in_err-all-clause-fault
returns-in_err-all-clause-fault g c = stream_fault c.from_residual.result c.in_err-all.field-0.0 c.from_residual.ensures.1 c.in_err-all.ensures.fault

pub returns-in_err-all-clause-says : goal.returns-in_err-all-clause-says
returns-in_err-all-clause-says g c = IfOk-from_err c.from_residual.result _ c.from_residual.ensures.0

pub returns-in_err-all-clause-kept : goal.returns-in_err-all-clause-kept
returns-in_err-all-clause-kept g c = IfOk-from_err c.from_residual.result _ c.from_residual.ensures.0

pub returns-in_err-all-clause-limits : goal.returns-in_err-all-clause-limits
returns-in_err-all-clause-limits g c = refl

pub returns-in_err-all-clause-reader : goal.returns-in_err-all-clause-reader
returns-in_err-all-clause-reader g c = prefix_self c.args.reader.now

pub returns-in_err-room-clause-fault : goal.returns-in_err-room-clause-fault
returns-in_err-room-clause-fault g c = stream_fault c.from_residual-in_err-room.result c.in_err-room.field-0.0 c.from_residual-in_err-room.ensures.1 c.in_err-room.ensures.fault

pub returns-in_err-room-clause-says : goal.returns-in_err-room-clause-says
returns-in_err-room-clause-says g c = IfOk-from_err c.from_residual-in_err-room.result _ c.from_residual-in_err-room.ensures.0

pub returns-in_err-room-clause-kept : goal.returns-in_err-room-clause-kept
returns-in_err-room-clause-kept g c = IfOk-from_err c.from_residual-in_err-room.result _ c.from_residual-in_err-room.ensures.0

pub returns-in_err-room-clause-limits : goal.returns-in_err-room-clause-limits
returns-in_err-room-clause-limits g c = c.tell.ensures.limits ∙ c.loop-one.invariant.limits

pub returns-in_err-room-clause-reader : goal.returns-in_err-room-clause-reader
returns-in_err-room-clause-reader g c = prefix_trans _ _ _ c.loop-one.invariant.reader c.tell.ensures.reader

pub returns-clause-kept : goal.returns-clause-kept
returns-clause-kept g c = c.loop-one.invariant.kept

pub returns-clause-limits : goal.returns-clause-limits
returns-clause-limits g c = c.loop-one.invariant.limits

pub returns-clause-reader : goal.returns-clause-reader
returns-clause-reader g c = c.loop-one.invariant.reader
