use Rattle.std.proofs.Common.{◌≤◌, ◌<◌, ◌+◌, ℕ, [], ◌∷◌, ◌∙◌, ap, arith, inl, inr, refl, rules, string_bytes}
use Rattle.std.proofs.lemmas.Result.{IfOk-from_err}
use Rattle.std.specs.Prelude.{option_map}
use Rattle.std.specs.Arc.{arc_value}
use Rattle.event_list.proofs.Prefixes.{prefix_trans}
use Rattle.ws_socket.specs.declared.fault.LinkFault.TheVariants.{Memory}
use Rattle.ws_serve.specs.Pieces.{words}
use Rattle.ws_serve.specs.Served.{put_back}
use Rattle.ws_serve.proofs.Beginning.{fails}
use Rattle.ws_serve.proofs.Failing.{stream_fault}
use Rattle.ws_serve.proofs.Gathering.{gathers_stored, gathers_ends, gathers_reads, gathers_stops, gathered_message, gathered_later, gathered_fault}
use Rattle.ws_serve.proofs.together.gather.Goals as goal

-- a text more
few_more : (texts reads : ℕ) → texts ≤ reads → reads < 1000000 → (texts + 1 ≤ reads + 1) × (reads + 1 ≤ 1000000)
few_more texts reads h room = (omega arith, omega arith)

pub returns-in_err-out-clause-failed : goal.returns-in_err-out-clause-failed
returns-in_err-out-clause-failed g c =
    fails c.from_residual.result
    (gathers_stops _ _ _ _ c.loop-event.conn c.serve_text.new.conn c.loop-event.socket c.loop-event.socket c.loop-event.reader c.serve_text.new.reader c.loop-event.invariant.gathers c.serve_text.ensures.limits c.serve_text.ensures.reader refl refl)

pub returns-in_err-push-clause-failed : goal.returns-in_err-push-clause-failed
returns-in_err-push-clause-failed g c =
    fails c.from_residual-in_err-push.result
    (gathers_stops _ _ _ _ c.loop-event.conn c.serve_text.new.conn c.loop-event.socket c.loop-event.socket c.loop-event.reader c.serve_text.new.reader c.loop-event.invariant.gathers c.serve_text.ensures.limits c.serve_text.ensures.reader refl refl)

pub returns-in_default-clause-gathered : goal.returns-in_default-clause-gathered
returns-in_default-clause-gathered g c =
    let served = rw c.as_str.ensures.value at c.in_ok-out.ensures.served in
    inr (gathers_ends _ (string_bytes c.loop-event.text) c.in_ok-out.field-0 c.loop-event.conn c.serve_text.new.conn c.loop-event.socket c.loop-event.reader c.serve_text.new.reader c.loop-event.invariant.gathers served c.serve_text.ensures.limits c.serve_text.ensures.reader (ap (option_map arc_value) c.in_default.is))

pub returns-then-counts-ge-MOST_READS-clause-gathered : goal.returns-then-counts-ge-MOST_READS-clause-gathered
returns-then-counts-ge-MOST_READS-clause-gathered g c =
    let served = rw c.as_str.ensures.value at c.in_ok-out.ensures.served in
    let stored = gathers_stored c.loop-event.events.items c.push.new.self.items c.in-Some.event (string_bytes c.loop-event.text) c.in_ok-out.field-0 (put_back c.loop-event.socket) c.loop-event.conn c.serve_text.new.conn c.loop-event.socket c.loop-event.reader c.serve_text.new.reader c.loop-event.invariant.gathers served c.serve_text.ensures.limits c.serve_text.ensures.reader c.in-Some.is c.in_ok-push.ensures.items in
    rw (c.message.ensures.heard, c.message.ensures.nothing) (inl (refl, stored))

pub returns-in-Ok-Other-clause-gathered : goal.returns-in-Ok-Other-clause-gathered
returns-in-Ok-Other-clause-gathered g c =
    let served = rw c.as_str.ensures.value at c.in_ok-out.ensures.served in
    let stored = gathers_stored c.loop-event.events.items c.push.new.self.items c.in-Some.event (string_bytes c.loop-event.text) c.in_ok-out.field-0 (put_back c.loop-event.socket) c.loop-event.conn c.serve_text.new.conn c.loop-event.socket c.loop-event.reader c.serve_text.new.reader c.loop-event.invariant.gathers served c.serve_text.ensures.limits c.serve_text.ensures.reader c.in-Some.is c.in_ok-push.ensures.items in
    let hears = rw c.in-Ok-Other.field-0-is at c.in-Ok-Other.ensures.hears in
    rw (c.message-in-Ok-Other.ensures.heard, c.message-in-Ok-Other.ensures.nothing)
    (gathered_message _ c.in-Ok-Other.heard c.next_message.new.reply.items c.serve_text.new.conn c.loop-event.socket c.next_message.new.socket c.serve_text.new.reader stored hears)

pub returns-in-Ok-Later-clause-gathered : goal.returns-in-Ok-Later-clause-gathered
returns-in-Ok-Later-clause-gathered g c =
    let served = rw c.as_str.ensures.value at c.in_ok-out.ensures.served in
    let stored = gathers_stored c.loop-event.events.items c.push.new.self.items c.in-Some.event (string_bytes c.loop-event.text) c.in_ok-out.field-0 (put_back c.loop-event.socket) c.loop-event.conn c.serve_text.new.conn c.loop-event.socket c.loop-event.reader c.serve_text.new.reader c.loop-event.invariant.gathers served c.serve_text.ensures.limits c.serve_text.ensures.reader c.in-Some.is c.in_ok-push.ensures.items in
    let brings = rw c.in-Ok-Later.field-0-is at c.in-Ok-Later.ensures.hears in
    rw (c.message-in-Ok-Later.ensures.heard, c.message-in-Ok-Later.ensures.nothing)
    (gathered_later _ c.next_message.new.reply.items c.serve_text.new.conn c.loop-event.socket c.next_message.new.socket c.serve_text.new.reader stored brings)

pub returns-in-Err-clause-gathered : goal.returns-in-Err-clause-gathered
returns-in-Err-clause-gathered g c =
    let served = rw c.as_str.ensures.value at c.in_ok-out.ensures.served in
    let stored = gathers_stored c.loop-event.events.items c.push.new.self.items c.in-Some.event (string_bytes c.loop-event.text) c.in_ok-out.field-0 (put_back c.loop-event.socket) c.loop-event.conn c.serve_text.new.conn c.loop-event.socket c.loop-event.reader c.serve_text.new.reader c.loop-event.invariant.gathers served c.serve_text.ensures.limits c.serve_text.ensures.reader c.in-Some.is c.in_ok-push.ensures.items in
    rw (c.message-in-Err.ensures.heard, c.message-in-Err.ensures.nothing)
    (gathered_fault _ c.in-Err.fault c.next_message.new.reply.items c.serve_text.new.conn c.loop-event.socket c.next_message.new.socket c.serve_text.new.reader stored c.in-Err.ensures.failed)

pub loop-event-preserved : goal.loop-event-preserved
loop-event-preserved g c =
    let served = rw c.as_str.ensures.value at c.in_ok-out.ensures.served in
    let stored = gathers_stored c.loop-event.events.items c.push.new.self.items c.in-Some.event (string_bytes c.loop-event.text) c.in_ok-out.field-0 (put_back c.loop-event.socket) c.loop-event.conn c.serve_text.new.conn c.loop-event.socket c.loop-event.reader c.serve_text.new.reader c.loop-event.invariant.gathers served c.serve_text.ensures.limits c.serve_text.ensures.reader c.in-Some.is c.in_ok-push.ensures.items in
    let brings = rw c.in-Ok-Event.field-0-is at c.in-Ok-Event.ensures.hears in
    record {
      few = (omega arith, omega arith);
      room = omega arith;
      reader = prefix_trans _ _ _ c.loop-event.invariant.reader c.serve_text.ensures.reader;
      limits = c.serve_text.ensures.limits ∙ c.loop-event.invariant.limits;
      gathers = gathers_reads _ (words (string_bytes c.in-Ok-Event.next) ∷ []) c.serve_text.new.conn c.loop-event.socket c.next_message.new.socket c.serve_text.new.reader stored brings;
    }

pub returns-in_err-out-clause-few : goal.returns-in_err-out-clause-few
returns-in_err-out-clause-few g c = few_more c.loop-event.counts.texts c.loop-event.counts.reads c.loop-event.invariant.few.0 c.loop-event.invariant.room

pub returns-in_err-out-clause-room : goal.returns-in_err-out-clause-room
returns-in_err-out-clause-room g c = IfOk-from_err c.from_residual.result _ c.from_residual.ensures.0

pub returns-in_err-out-clause-none_acknowledged : goal.returns-in_err-out-clause-none_acknowledged
returns-in_err-out-clause-none_acknowledged g c = IfOk-from_err c.from_residual.result _ c.from_residual.ensures.0

pub returns-in_err-out-clause-heard_fault : goal.returns-in_err-out-clause-heard_fault
returns-in_err-out-clause-heard_fault g c = IfOk-from_err c.from_residual.result _ c.from_residual.ensures.0

pub returns-in_err-out-clause-gathered : goal.returns-in_err-out-clause-gathered
returns-in_err-out-clause-gathered g c = IfOk-from_err c.from_residual.result _ c.from_residual.ensures.0

pub returns-in_err-out-clause-fault : goal.returns-in_err-out-clause-fault
returns-in_err-out-clause-fault g c = stream_fault c.from_residual.result c.in_err-out.field-0.0 c.from_residual.ensures.1 c.in_err-out.ensures.fault

pub returns-in_err-out-clause-limits : goal.returns-in_err-out-clause-limits
returns-in_err-out-clause-limits g c = c.serve_text.ensures.limits ∙ c.loop-event.invariant.limits

pub returns-in_err-out-clause-reader : goal.returns-in_err-out-clause-reader
returns-in_err-out-clause-reader g c = prefix_trans _ _ _ c.loop-event.invariant.reader c.serve_text.ensures.reader

pub returns-in_err-push-clause-few : goal.returns-in_err-push-clause-few
returns-in_err-push-clause-few g c = few_more c.loop-event.counts.texts c.loop-event.counts.reads c.loop-event.invariant.few.0 c.loop-event.invariant.room

pub returns-in_err-push-clause-room : goal.returns-in_err-push-clause-room
returns-in_err-push-clause-room g c = IfOk-from_err c.from_residual-in_err-push.result _ c.from_residual-in_err-push.ensures.0

pub returns-in_err-push-clause-none_acknowledged : goal.returns-in_err-push-clause-none_acknowledged
returns-in_err-push-clause-none_acknowledged g c = IfOk-from_err c.from_residual-in_err-push.result _ c.from_residual-in_err-push.ensures.0

pub returns-in_err-push-clause-heard_fault : goal.returns-in_err-push-clause-heard_fault
returns-in_err-push-clause-heard_fault g c = IfOk-from_err c.from_residual-in_err-push.result _ c.from_residual-in_err-push.ensures.0

pub returns-in_err-push-clause-gathered : goal.returns-in_err-push-clause-gathered
returns-in_err-push-clause-gathered g c = IfOk-from_err c.from_residual-in_err-push.result _ c.from_residual-in_err-push.ensures.0

pub returns-in_err-push-clause-fault : goal.returns-in_err-push-clause-fault
returns-in_err-push-clause-fault g c = stream_fault c.from_residual-in_err-push.result Memory c.from_residual-in_err-push.ensures.1 tt

pub returns-in_err-push-clause-limits : goal.returns-in_err-push-clause-limits
returns-in_err-push-clause-limits g c = c.serve_text.ensures.limits ∙ c.loop-event.invariant.limits

pub returns-in_err-push-clause-reader : goal.returns-in_err-push-clause-reader
returns-in_err-push-clause-reader g c = prefix_trans _ _ _ c.loop-event.invariant.reader c.serve_text.ensures.reader

pub returns-in_default-clause-few : goal.returns-in_default-clause-few
returns-in_default-clause-few g c = few_more c.loop-event.counts.texts c.loop-event.counts.reads c.loop-event.invariant.few.0 c.loop-event.invariant.room

pub returns-in_default-clause-none_acknowledged : goal.returns-in_default-clause-none_acknowledged
returns-in_default-clause-none_acknowledged g c = c.in_ok-out.ensures.none_acknowledged

pub returns-in_default-clause-limits : goal.returns-in_default-clause-limits
returns-in_default-clause-limits g c = c.serve_text.ensures.limits ∙ c.loop-event.invariant.limits

pub returns-in_default-clause-reader : goal.returns-in_default-clause-reader
returns-in_default-clause-reader g c = prefix_trans _ _ _ c.loop-event.invariant.reader c.serve_text.ensures.reader

pub returns-then-counts-ge-MOST_READS-clause-few : goal.returns-then-counts-ge-MOST_READS-clause-few
returns-then-counts-ge-MOST_READS-clause-few g c = few_more c.loop-event.counts.texts c.loop-event.counts.reads c.loop-event.invariant.few.0 c.loop-event.invariant.room

pub returns-then-counts-ge-MOST_READS-clause-room : goal.returns-then-counts-ge-MOST_READS-clause-room
returns-then-counts-ge-MOST_READS-clause-room g c = rw c.message.ensures.heard tt

pub returns-then-counts-ge-MOST_READS-clause-none_acknowledged : goal.returns-then-counts-ge-MOST_READS-clause-none_acknowledged
returns-then-counts-ge-MOST_READS-clause-none_acknowledged g c = rw c.message.ensures.nothing tt

pub returns-then-counts-ge-MOST_READS-clause-limits : goal.returns-then-counts-ge-MOST_READS-clause-limits
returns-then-counts-ge-MOST_READS-clause-limits g c = c.serve_text.ensures.limits ∙ c.loop-event.invariant.limits

pub returns-then-counts-ge-MOST_READS-clause-heard_fault : goal.returns-then-counts-ge-MOST_READS-clause-heard_fault
returns-then-counts-ge-MOST_READS-clause-heard_fault g c = rw c.message.ensures.heard tt

pub returns-then-counts-ge-MOST_READS-clause-reader : goal.returns-then-counts-ge-MOST_READS-clause-reader
returns-then-counts-ge-MOST_READS-clause-reader g c = prefix_trans _ _ _ c.loop-event.invariant.reader c.serve_text.ensures.reader

pub returns-in-Ok-Other-clause-few : goal.returns-in-Ok-Other-clause-few
returns-in-Ok-Other-clause-few g c = few_more c.loop-event.counts.texts c.loop-event.counts.reads c.loop-event.invariant.few.0 c.loop-event.invariant.room

pub returns-in-Ok-Other-clause-room : goal.returns-in-Ok-Other-clause-room
returns-in-Ok-Other-clause-room g c = let room : c.loop-event.counts.reads + 1 < 1000000 = omega arith in rw c.message-in-Ok-Other.ensures.heard room

pub returns-in-Ok-Other-clause-none_acknowledged : goal.returns-in-Ok-Other-clause-none_acknowledged
returns-in-Ok-Other-clause-none_acknowledged g c = rw c.message-in-Ok-Other.ensures.nothing tt

pub returns-in-Ok-Other-clause-limits : goal.returns-in-Ok-Other-clause-limits
returns-in-Ok-Other-clause-limits g c = c.serve_text.ensures.limits ∙ c.loop-event.invariant.limits

pub returns-in-Ok-Other-clause-heard_fault : goal.returns-in-Ok-Other-clause-heard_fault
returns-in-Ok-Other-clause-heard_fault g c = rw c.message-in-Ok-Other.ensures.heard tt

pub returns-in-Ok-Other-clause-reader : goal.returns-in-Ok-Other-clause-reader
returns-in-Ok-Other-clause-reader g c = prefix_trans _ _ _ c.loop-event.invariant.reader c.serve_text.ensures.reader

pub returns-in-Ok-Later-clause-few : goal.returns-in-Ok-Later-clause-few
returns-in-Ok-Later-clause-few g c = few_more c.loop-event.counts.texts c.loop-event.counts.reads c.loop-event.invariant.few.0 c.loop-event.invariant.room

pub returns-in-Ok-Later-clause-room : goal.returns-in-Ok-Later-clause-room
returns-in-Ok-Later-clause-room g c = rw c.message-in-Ok-Later.ensures.heard tt

pub returns-in-Ok-Later-clause-none_acknowledged : goal.returns-in-Ok-Later-clause-none_acknowledged
returns-in-Ok-Later-clause-none_acknowledged g c = rw c.message-in-Ok-Later.ensures.nothing tt

pub returns-in-Ok-Later-clause-limits : goal.returns-in-Ok-Later-clause-limits
returns-in-Ok-Later-clause-limits g c = c.serve_text.ensures.limits ∙ c.loop-event.invariant.limits

pub returns-in-Ok-Later-clause-heard_fault : goal.returns-in-Ok-Later-clause-heard_fault
returns-in-Ok-Later-clause-heard_fault g c = rw c.message-in-Ok-Later.ensures.heard tt

pub returns-in-Ok-Later-clause-reader : goal.returns-in-Ok-Later-clause-reader
returns-in-Ok-Later-clause-reader g c = prefix_trans _ _ _ c.loop-event.invariant.reader c.serve_text.ensures.reader

pub returns-in-Err-clause-few : goal.returns-in-Err-clause-few
returns-in-Err-clause-few g c = few_more c.loop-event.counts.texts c.loop-event.counts.reads c.loop-event.invariant.few.0 c.loop-event.invariant.room

pub returns-in-Err-clause-room : goal.returns-in-Err-clause-room
returns-in-Err-clause-room g c = rw c.message-in-Err.ensures.heard tt

pub returns-in-Err-clause-none_acknowledged : goal.returns-in-Err-clause-none_acknowledged
returns-in-Err-clause-none_acknowledged g c = rw c.message-in-Err.ensures.nothing tt

pub returns-in-Err-clause-limits : goal.returns-in-Err-clause-limits
returns-in-Err-clause-limits g c = c.serve_text.ensures.limits ∙ c.loop-event.invariant.limits

pub returns-in-Err-clause-heard_fault : goal.returns-in-Err-clause-heard_fault
returns-in-Err-clause-heard_fault g c = rw c.message-in-Err.ensures.heard c.in-Err.ensures.fault

pub returns-in-Err-clause-reader : goal.returns-in-Err-clause-reader
returns-in-Err-clause-reader g c = prefix_trans _ _ _ c.loop-event.invariant.reader c.serve_text.ensures.reader

pub returns-clause-few : goal.returns-clause-few
returns-clause-few g c = c.loop-event.invariant.few

pub returns-clause-room : goal.returns-clause-room
returns-clause-room g c = rw c.message-2.ensures.heard c.loop-event.invariant.room

pub returns-clause-none_acknowledged : goal.returns-clause-none_acknowledged
returns-clause-none_acknowledged g c = rw c.message-2.ensures.nothing tt

pub returns-clause-limits : goal.returns-clause-limits
returns-clause-limits g c = c.loop-event.invariant.limits

pub returns-clause-heard_fault : goal.returns-clause-heard_fault
returns-clause-heard_fault g c = rw c.message-2.ensures.heard tt

pub returns-clause-reader : goal.returns-clause-reader
returns-clause-reader g c = c.loop-event.invariant.reader
