use Rattle.std.proofs.Common.{◌∷◌, string_bytes}
use Rattle.std.proofs.lemmas.Result.{err_from_is_err_and}
use Rattle.ws_serve.proofs.Going.{serving_answered, bytes_answered, bytes_answered_some, other_answered, close_answered, text_awaited}
use Rattle.ws_serve.proofs.hearing.answer_message.Goals as goal

pub returns-in_err-refuse_bytes-in-Binary-clause-served : goal.returns-in_err-refuse_bytes-in-Binary-clause-served
returns-in_err-refuse_bytes-in-Binary-clause-served g c =
    let p = err_from_is_err_and c.from_residual-in_err-refuse_bytes-in-Binary.result c.from_residual-in_err-refuse_bytes-in-Binary.ensures.1 in
    rw p.1 (bytes_answered_some c.args.reply.now.items c.args.conn.now c.args.socket.now c.refuse_bytes.new.socket c.args.reader.now (rw c.in-Binary.is at c.requires.awaits) c.in_err-refuse_bytes-in-Binary.ensures.failed)

pub returns-in_ok-answer-in-Text-clause-served : goal.returns-in_ok-answer-in-Text-clause-served
returns-in_ok-answer-in-Text-clause-served g c =
    let a = rw c.in-Text.is at c.requires.awaits in
    let serving = text_awaited (string_bytes c.in-Text.text) a.0 c.args.conn.now c.args.socket.now c.args.reader.now a.1 a.2 in
    let answers = rw c.as_str.ensures.value at c.in_ok-answer-in-Text.ensures.answers in
    serving_answered (string_bytes c.in-Text.text) c.args.conn.now c.answer.new.conn c.args.socket.now c.answer.new.socket c.args.reader.now c.answer.new.reader serving answers c.answer.ensures.limits

pub returns-in_ok-refuse_bytes-in-Binary-clause-served : goal.returns-in_ok-refuse_bytes-in-Binary-clause-served
returns-in_ok-refuse_bytes-in-Binary-clause-served g c =
    bytes_answered c.args.reply.now.items c.args.conn.now c.args.socket.now c.refuse_bytes.new.socket c.args.reader.now (rw c.in-Binary.is at c.requires.awaits) c.in_ok-refuse_bytes-in-Binary.ensures.says

pub returns-in_ok-put_reply-in-Other-clause-served : goal.returns-in_ok-put_reply-in-Other-clause-served
returns-in_ok-put_reply-in-Other-clause-served g c =
    other_answered c.args.reply.now.items c.args.conn.now c.args.socket.now c.put_reply.new.self c.args.reader.now (rw c.in-Other.is at c.requires.awaits) (rw c.as_slice.ensures.value at c.in_ok-put_reply-in-Other.ensures.whole)

pub returns-in_ok-put_reply-in-Close-clause-served : goal.returns-in_ok-put_reply-in-Close-clause-served
returns-in_ok-put_reply-in-Close-clause-served g c =
    close_answered c.args.reply.now.items c.args.conn.now c.args.socket.now c.put_reply-in-Close.new.self c.args.reader.now (rw c.in-Close.is at c.requires.awaits) (rw c.as_slice-in-Close.ensures.value at c.in_ok-put_reply-in-Close.ensures.whole)
