use Rattle.std.proofs.Common.{◌∙◌, map, refl}
use Rattle.std.proofs.lemmas.Result.{IfOk-from_err, err_from_is_err_and}
use Rattle.std.specs.Arc.{arc_value}
use Rattle.event_list.proofs.Prefixes.{prefix_self, prefix_trans}
use Rattle.nostr_wire.specs.Forms.{relay_form}
use Rattle.ws_socket.specs.declared.fault.LinkFault.TheVariants.{Memory}
use Rattle.ws_serve.proofs.Failing.{stream_fault}
use Rattle.ws_serve.proofs.Gathering.{gathered_said, gathered_stops, gathered_some, gathered_begun}
use Rattle.ws_serve.proofs.Going.{serving_served}
use Rattle.ws_serve.proofs.together.take_events.Goals as goal

pub returns-in_err-answer_each-clause-awaited : goal.returns-in_err-answer_each-clause-awaited
returns-in_err-answer_each-clause-awaited g c =
    let p = err_from_is_err_and c.from_residual-in_err-answer_each.result c.from_residual-in_err-answer_each.ensures.1 in
    let some = rw c.as_slice-2.ensures.value at c.in_err-answer_each.ensures.failed in
    rw p.1
    (gathered_begun (map arc_value c.gather-gathered.new.events.items) c.in-Ok.behind.heard (map relay_form c.in-Ok.behind.out.items) c.gather-gathered.new.reply.items c.gather-gathered.new.conn c.answer_each.new.conn c.gather-gathered.new.socket c.answer_each.new.socket c.gather-gathered.new.reader c.answer_each.new.reader c.in-Ok.ensures.gathered some c.answer_each.ensures.limits c.answer_each.ensures.reader)

pub returns-in_err-say_all-clause-awaited : goal.returns-in_err-say_all-clause-awaited
returns-in_err-say_all-clause-awaited g c =
    let p = err_from_is_err_and c.from_residual-in_err-say_all.result c.from_residual-in_err-say_all.ensures.1 in
    let says = rw c.as_slice-2.ensures.value at c.in_ok-answer_each.ensures.says in
    rw p.1
    (gathered_some (map arc_value c.gather-gathered.new.events.items) c.in-Ok.behind.heard (map relay_form c.in-Ok.behind.out.items) c.gather-gathered.new.reply.items c.gather-gathered.new.conn c.answer_each.new.conn c.gather-gathered.new.socket c.answer_each.new.socket c.say_all.new.socket c.gather-gathered.new.reader c.answer_each.new.reader c.in-Ok.ensures.gathered says c.answer_each.ensures.limits c.in_ok-answer_each.ensures.kept c.answer_each.ensures.reader c.in_err-say_all.ensures.failed)

pub returns-in_err-catch_up-clause-awaited : goal.returns-in_err-catch_up-clause-awaited
returns-in_err-catch_up-clause-awaited g c =
    let p = err_from_is_err_and c.from_residual-in_err-catch_up.result c.from_residual-in_err-catch_up.ensures.1 in
    let says = rw c.as_slice-2.ensures.value at c.in_ok-answer_each.ensures.says in
    rw p.1
    (gathered_stops (map arc_value c.gather-gathered.new.events.items) c.in-Ok.behind.heard (map relay_form c.in-Ok.behind.out.items) c.gather-gathered.new.reply.items c.gather-gathered.new.conn c.answer_each.new.conn c.catch_up.new.conn c.gather-gathered.new.socket c.answer_each.new.socket c.say_all.new.socket c.catch_up.new.socket c.gather-gathered.new.reader c.answer_each.new.reader c.catch_up.new.reader c.in-Ok.ensures.gathered says c.answer_each.ensures.limits c.in_ok-answer_each.ensures.kept c.answer_each.ensures.reader c.in_ok-say_all.ensures.says c.in_err-catch_up.ensures.stops)

pub returns-clause-awaited : goal.returns-clause-awaited
returns-clause-awaited g c =
    let says = rw c.as_slice-2.ensures.value at c.in_ok-answer_each.ensures.says in
    gathered_said (map arc_value c.gather-gathered.new.events.items) c.in-Ok.behind.heard (map relay_form c.in-Ok.behind.out.items) c.gather-gathered.new.reply.items c.gather-gathered.new.conn c.answer_each.new.conn c.catch_up.new.conn c.gather-gathered.new.socket c.answer_each.new.socket c.say_all.new.socket c.catch_up.new.socket c.gather-gathered.new.reader c.answer_each.new.reader c.catch_up.new.reader c.in-Ok.ensures.gathered says c.answer_each.ensures.limits c.in_ok-answer_each.ensures.kept c.answer_each.ensures.reader c.in_ok-say_all.ensures.says c.in_ok-catch_up.ensures.goes_on c.in_ok-catch_up.ensures.reads

pub returns-in_err-events-clause-few : goal.returns-in_err-events-clause-few
returns-in_err-events-clause-few g c = c.requires.few

pub returns-in_err-events-clause-room : goal.returns-in_err-events-clause-room
returns-in_err-events-clause-room g c = IfOk-from_err c.from_residual.result _ c.from_residual.ensures.0

pub returns-in_err-events-clause-fault : goal.returns-in_err-events-clause-fault
returns-in_err-events-clause-fault g c = stream_fault c.from_residual.result Memory c.from_residual.ensures.1 tt

pub returns-in_err-events-clause-limits : goal.returns-in_err-events-clause-limits
returns-in_err-events-clause-limits g c = refl

pub returns-in_err-events-clause-awaited : goal.returns-in_err-events-clause-awaited
returns-in_err-events-clause-awaited g c =
    let p = err_from_is_err_and c.from_residual.result c.from_residual.ensures.1 in
    rw (p.1, c.read_many.ensures)
    (serving_served c.args.conn.now c.args.socket.now c.args.reader.now c.requires.serving refl refl (prefix_self c.args.socket.now.said) (prefix_self c.args.reader.now))

pub returns-in_err-events-clause-reader : goal.returns-in_err-events-clause-reader
returns-in_err-events-clause-reader g c = prefix_self c.args.reader.now

pub returns-in_err-answer_each-clause-few : goal.returns-in_err-answer_each-clause-few
returns-in_err-answer_each-clause-few g c = c.gather-gathered.ensures.few

pub returns-in_err-answer_each-clause-room : goal.returns-in_err-answer_each-clause-room
returns-in_err-answer_each-clause-room g c = IfOk-from_err c.from_residual-in_err-answer_each.result _ c.from_residual-in_err-answer_each.ensures.0

pub returns-in_err-answer_each-clause-fault : goal.returns-in_err-answer_each-clause-fault
returns-in_err-answer_each-clause-fault g c = stream_fault c.from_residual-in_err-answer_each.result c.in_err-answer_each.field-0.0 c.from_residual-in_err-answer_each.ensures.1 c.in_err-answer_each.ensures.fault

pub returns-in_err-answer_each-clause-limits : goal.returns-in_err-answer_each-clause-limits
returns-in_err-answer_each-clause-limits g c = c.answer_each.ensures.limits ∙ c.gather-gathered.ensures.limits

pub returns-in_err-answer_each-clause-reader : goal.returns-in_err-answer_each-clause-reader
returns-in_err-answer_each-clause-reader g c = prefix_trans _ _ _ c.gather-gathered.ensures.reader c.answer_each.ensures.reader

pub returns-in_err-say_all-clause-few : goal.returns-in_err-say_all-clause-few
returns-in_err-say_all-clause-few g c = c.gather-gathered.ensures.few

pub returns-in_err-say_all-clause-room : goal.returns-in_err-say_all-clause-room
returns-in_err-say_all-clause-room g c = IfOk-from_err c.from_residual-in_err-say_all.result _ c.from_residual-in_err-say_all.ensures.0

pub returns-in_err-say_all-clause-fault : goal.returns-in_err-say_all-clause-fault
returns-in_err-say_all-clause-fault g c = stream_fault c.from_residual-in_err-say_all.result c.in_err-say_all.field-0.0 c.from_residual-in_err-say_all.ensures.1 c.in_err-say_all.ensures.fault

pub returns-in_err-say_all-clause-limits : goal.returns-in_err-say_all-clause-limits
returns-in_err-say_all-clause-limits g c = c.answer_each.ensures.limits ∙ c.gather-gathered.ensures.limits

pub returns-in_err-say_all-clause-reader : goal.returns-in_err-say_all-clause-reader
returns-in_err-say_all-clause-reader g c = prefix_trans _ _ _ c.gather-gathered.ensures.reader c.answer_each.ensures.reader

pub returns-in_err-catch_up-clause-few : goal.returns-in_err-catch_up-clause-few
returns-in_err-catch_up-clause-few g c = c.gather-gathered.ensures.few

pub returns-in_err-catch_up-clause-room : goal.returns-in_err-catch_up-clause-room
returns-in_err-catch_up-clause-room g c = IfOk-from_err c.from_residual-in_err-catch_up.result _ c.from_residual-in_err-catch_up.ensures.0

pub returns-in_err-catch_up-clause-fault : goal.returns-in_err-catch_up-clause-fault
returns-in_err-catch_up-clause-fault g c = stream_fault c.from_residual-in_err-catch_up.result c.in_err-catch_up.field-0.0 c.from_residual-in_err-catch_up.ensures.1 c.in_err-catch_up.ensures.fault

pub returns-in_err-catch_up-clause-limits : goal.returns-in_err-catch_up-clause-limits
returns-in_err-catch_up-clause-limits g c = c.catch_up.ensures.limits ∙ (c.answer_each.ensures.limits ∙ c.gather-gathered.ensures.limits)

pub returns-in_err-catch_up-clause-reader : goal.returns-in_err-catch_up-clause-reader
returns-in_err-catch_up-clause-reader g c = prefix_trans _ _ _ (prefix_trans _ _ _ c.gather-gathered.ensures.reader c.answer_each.ensures.reader) c.catch_up.ensures.reader

pub returns-in-Err-clause-few : goal.returns-in-Err-clause-few
returns-in-Err-clause-few g c = c.gather-gathered.ensures.few

pub returns-in-Err-clause-fault : goal.returns-in-Err-clause-fault
returns-in-Err-clause-fault g c = c.in-Err.ensures.fault

pub returns-in-Err-clause-limits : goal.returns-in-Err-clause-limits
returns-in-Err-clause-limits g c = c.gather-gathered.ensures.limits

pub returns-in-Err-clause-awaited : goal.returns-in-Err-clause-awaited
returns-in-Err-clause-awaited g c = c.in-Err.ensures.failed

pub returns-in-Err-clause-reader : goal.returns-in-Err-clause-reader
returns-in-Err-clause-reader g c = c.gather-gathered.ensures.reader

pub returns-clause-few : goal.returns-clause-few
returns-clause-few g c = c.gather-gathered.ensures.few

pub returns-clause-room : goal.returns-clause-room
returns-clause-room g c = c.in-Ok.ensures.room

pub returns-clause-fault : goal.returns-clause-fault
returns-clause-fault g c = c.in-Ok.ensures.heard_fault

pub returns-clause-limits : goal.returns-clause-limits
returns-clause-limits g c = c.catch_up.ensures.limits ∙ (c.answer_each.ensures.limits ∙ c.gather-gathered.ensures.limits)

pub returns-clause-reader : goal.returns-clause-reader
returns-clause-reader g c = prefix_trans _ _ _ (prefix_trans _ _ _ c.gather-gathered.ensures.reader c.answer_each.ensures.reader) c.catch_up.ensures.reader
