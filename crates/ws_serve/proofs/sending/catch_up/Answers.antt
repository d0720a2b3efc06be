use Rattle.std.proofs.Common.{◌∙◌, map, rules, refl}
use Rattle.std.proofs.lemmas.Result.{IfOk-from_err}
use Rattle.event_list.proofs.Prefixes.{prefix_self, prefix_trans}
use Rattle.nostr_wire.specs.Forms.{relay_form}
use Rattle.relay_core.specs.Due.{CatchesUp}
use Rattle.relay_core.specs.Faults.{GoesOnBy}
use Rattle.ws_serve.proofs.Answering.{due_part_more, due_sent}
use Rattle.ws_serve.proofs.Beginning.{fails}
use Rattle.ws_serve.proofs.Failing.{stream_fault}
use Rattle.ws_serve.proofs.Going.{goes_publishing, goes_resting, goes_stopping, goes_beginning, none_read_says, none_read_rests}
use Rattle.ws_serve.proofs.sending.catch_up.Goals as goal

pub loop-part-preserved : goal.loop-part-preserved
loop-part-preserved g c =
    let caught : GoesOnBy (CatchesUp c.catch_up.new.reader c.in_ok-caught.caught.front (map relay_form c.in_ok-caught.caught.out.items)) c.loop-part.conn.kept c.catch_up.new.self.kept = search rules in
    let goes = goes_publishing c.args.conn.now c.loop-part.conn c.catch_up.new.self c.args.socket.now c.loop-part.socket c.say_all.new.socket c.args.reader.now c.loop-part.reader c.catch_up.new.reader _ _ c.loop-part.invariant.goes_on caught c.catch_up.ensures.limits c.catch_up.ensures.reader c.in_ok-say_all.ensures.says in
    record {
      reader = prefix_trans _ _ _ c.loop-part.invariant.reader c.catch_up.ensures.reader;
      limits = search rules;
      due = due_sent _ _ _ _ _ _ (due_part_more _ _ _ _ _ _ _ _ _ _ c.catch_up.ensures.reader c.loop-part.invariant.due caught c.in_ok-say_all.ensures.says) c.send.ensures.rests;
      goes_on = goes_resting c.args.conn.now c.catch_up.new.self c.args.socket.now c.say_all.new.socket c.send.new.self c.args.reader.now c.catch_up.new.reader goes c.send.ensures.rests;
      reads = none_read_rests c.args.socket.now c.say_all.new.socket c.send.new.self (none_read_says c.args.socket.now c.loop-part.socket c.say_all.new.socket _ c.loop-part.invariant.reads c.in_ok-say_all.ensures.says) c.send.ensures.rests;
    }

pub returns-then-caught-clause-due : goal.returns-then-caught-clause-due
returns-then-caught-clause-due g c =
    let caught : GoesOnBy (CatchesUp c.catch_up.new.reader c.in_ok-caught.caught.front (map relay_form c.in_ok-caught.caught.out.items)) c.loop-part.conn.kept c.catch_up.new.self.kept = search rules in
    due_part_more _ _ _ _ _ _ _ _ _ _ c.catch_up.ensures.reader c.loop-part.invariant.due caught c.in_ok-say_all.ensures.says

pub returns-then-caught-clause-goes_on : goal.returns-then-caught-clause-goes_on
returns-then-caught-clause-goes_on g c =
    let caught : GoesOnBy (CatchesUp c.catch_up.new.reader c.in_ok-caught.caught.front (map relay_form c.in_ok-caught.caught.out.items)) c.loop-part.conn.kept c.catch_up.new.self.kept = search rules in
    goes_publishing c.args.conn.now c.loop-part.conn c.catch_up.new.self c.args.socket.now c.loop-part.socket c.say_all.new.socket c.args.reader.now c.loop-part.reader c.catch_up.new.reader _ _ c.loop-part.invariant.goes_on caught c.catch_up.ensures.limits c.catch_up.ensures.reader c.in_ok-say_all.ensures.says

pub returns-then-caught-clause-reads : goal.returns-then-caught-clause-reads
returns-then-caught-clause-reads g c =
    none_read_says c.args.socket.now c.loop-part.socket c.say_all.new.socket _ c.loop-part.invariant.reads c.in_ok-say_all.ensures.says

pub returns-in_err-caught-clause-stops : goal.returns-in_err-caught-clause-stops
returns-in_err-caught-clause-stops g c =
    fails c.from_residual.result
    (goes_stopping c.args.conn.now c.loop-part.conn c.catch_up.new.self c.args.socket.now c.loop-part.socket c.loop-part.socket c.args.reader.now c.loop-part.reader c.catch_up.new.reader c.loop-part.invariant.goes_on c.catch_up.ensures.limits refl refl c.catch_up.ensures.reader)

pub returns-in_err-say_all-clause-stops : goal.returns-in_err-say_all-clause-stops
returns-in_err-say_all-clause-stops g c =
    let caught : GoesOnBy (CatchesUp c.catch_up.new.reader c.in_ok-caught.caught.front (map relay_form c.in_ok-caught.caught.out.items)) c.loop-part.conn.kept c.catch_up.new.self.kept = search rules in
    fails c.from_residual-in_err-say_all.result
    (goes_beginning c.args.conn.now c.loop-part.conn c.catch_up.new.self c.args.socket.now c.loop-part.socket c.say_all.new.socket c.args.reader.now c.loop-part.reader c.catch_up.new.reader _ _ c.loop-part.invariant.goes_on caught c.catch_up.ensures.limits c.catch_up.ensures.reader c.in_err-say_all.ensures.failed)

pub returns-in_err-send-clause-stops : goal.returns-in_err-send-clause-stops
returns-in_err-send-clause-stops g c =
    let caught : GoesOnBy (CatchesUp c.catch_up.new.reader c.in_ok-caught.caught.front (map relay_form c.in_ok-caught.caught.out.items)) c.loop-part.conn.kept c.catch_up.new.self.kept = search rules in
    let goes = goes_publishing c.args.conn.now c.loop-part.conn c.catch_up.new.self c.args.socket.now c.loop-part.socket c.say_all.new.socket c.args.reader.now c.loop-part.reader c.catch_up.new.reader _ _ c.loop-part.invariant.goes_on caught c.catch_up.ensures.limits c.catch_up.ensures.reader c.in_ok-say_all.ensures.says in
    fails c.from_residual-in_err-send.result
    (goes_stopping c.args.conn.now c.catch_up.new.self c.catch_up.new.self c.args.socket.now c.say_all.new.socket c.send.new.self c.args.reader.now c.catch_up.new.reader c.catch_up.new.reader goes refl c.send.ensures.rests.given c.send.ensures.rests.said (prefix_self c.catch_up.new.reader))

pub returns-then-caught-clause-limits : goal.returns-then-caught-clause-limits
returns-then-caught-clause-limits g c = c.catch_up.ensures.limits ∙ c.loop-part.invariant.limits

pub returns-then-caught-clause-reader : goal.returns-then-caught-clause-reader
returns-then-caught-clause-reader g c = prefix_trans _ _ _ c.loop-part.invariant.reader c.catch_up.ensures.reader

pub returns-in_err-caught-clause-fault : goal.returns-in_err-caught-clause-fault
returns-in_err-caught-clause-fault g c = stream_fault c.from_residual.result c.in_err-caught.field-0.0 c.from_residual.ensures.1 c.in_err-caught.ensures.fault

pub returns-in_err-caught-clause-due : goal.returns-in_err-caught-clause-due
returns-in_err-caught-clause-due g c = IfOk-from_err c.from_residual.result _ c.from_residual.ensures.0

pub returns-in_err-caught-clause-goes_on : goal.returns-in_err-caught-clause-goes_on
returns-in_err-caught-clause-goes_on g c = IfOk-from_err c.from_residual.result _ c.from_residual.ensures.0

pub returns-in_err-caught-clause-reads : goal.returns-in_err-caught-clause-reads
returns-in_err-caught-clause-reads g c = IfOk-from_err c.from_residual.result _ c.from_residual.ensures.0

pub returns-in_err-caught-clause-limits : goal.returns-in_err-caught-clause-limits
returns-in_err-caught-clause-limits g c = c.catch_up.ensures.limits ∙ c.loop-part.invariant.limits

pub returns-in_err-caught-clause-reader : goal.returns-in_err-caught-clause-reader
returns-in_err-caught-clause-reader g c = prefix_trans _ _ _ c.loop-part.invariant.reader c.catch_up.ensures.reader

pub returns-in_err-say_all-clause-fault : goal.returns-in_err-say_all-clause-fault
returns-in_err-say_all-clause-fault g c = stream_fault c.from_residual-in_err-say_all.result c.in_err-say_all.field-0.0 c.from_residual-in_err-say_all.ensures.1 c.in_err-say_all.ensures.fault

pub returns-in_err-say_all-clause-due : goal.returns-in_err-say_all-clause-due
returns-in_err-say_all-clause-due g c = IfOk-from_err c.from_residual-in_err-say_all.result _ c.from_residual-in_err-say_all.ensures.0

pub returns-in_err-say_all-clause-goes_on : goal.returns-in_err-say_all-clause-goes_on
returns-in_err-say_all-clause-goes_on g c = IfOk-from_err c.from_residual-in_err-say_all.result _ c.from_residual-in_err-say_all.ensures.0

pub returns-in_err-say_all-clause-reads : goal.returns-in_err-say_all-clause-reads
returns-in_err-say_all-clause-reads g c = IfOk-from_err c.from_residual-in_err-say_all.result _ c.from_residual-in_err-say_all.ensures.0

pub returns-in_err-say_all-clause-limits : goal.returns-in_err-say_all-clause-limits
returns-in_err-say_all-clause-limits g c = c.catch_up.ensures.limits ∙ c.loop-part.invariant.limits

pub returns-in_err-say_all-clause-reader : goal.returns-in_err-say_all-clause-reader
returns-in_err-say_all-clause-reader g c = prefix_trans _ _ _ c.loop-part.invariant.reader c.catch_up.ensures.reader

pub returns-in_err-send-clause-fault : goal.returns-in_err-send-clause-fault
returns-in_err-send-clause-fault g c = stream_fault c.from_residual-in_err-send.result c.in_err-send.field-0.0 c.from_residual-in_err-send.ensures.1 c.in_err-send.ensures.fault

pub returns-in_err-send-clause-due : goal.returns-in_err-send-clause-due
returns-in_err-send-clause-due g c = IfOk-from_err c.from_residual-in_err-send.result _ c.from_residual-in_err-send.ensures.0

pub returns-in_err-send-clause-goes_on : goal.returns-in_err-send-clause-goes_on
returns-in_err-send-clause-goes_on g c = IfOk-from_err c.from_residual-in_err-send.result _ c.from_residual-in_err-send.ensures.0

pub returns-in_err-send-clause-reads : goal.returns-in_err-send-clause-reads
returns-in_err-send-clause-reads g c = IfOk-from_err c.from_residual-in_err-send.result _ c.from_residual-in_err-send.ensures.0

pub returns-in_err-send-clause-limits : goal.returns-in_err-send-clause-limits
returns-in_err-send-clause-limits g c = c.catch_up.ensures.limits ∙ c.loop-part.invariant.limits

pub returns-in_err-send-clause-reader : goal.returns-in_err-send-clause-reader
returns-in_err-send-clause-reader g c = prefix_trans _ _ _ c.loop-part.invariant.reader c.catch_up.ensures.reader

pub returns-clause-due : goal.returns-clause-due
returns-clause-due g c = c.loop-part.invariant.due

pub returns-clause-goes_on : goal.returns-clause-goes_on
returns-clause-goes_on g c = c.loop-part.invariant.goes_on

pub returns-clause-reads : goal.returns-clause-reads
returns-clause-reads g c = c.loop-part.invariant.reads

pub returns-clause-limits : goal.returns-clause-limits
returns-clause-limits g c = c.loop-part.invariant.limits

pub returns-clause-reader : goal.returns-clause-reader
returns-clause-reader g c = c.loop-part.invariant.reader
