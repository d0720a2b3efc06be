use Rattle.std.proofs.Common.{[], sym, ◌∙◌}
use Rattle.std.proofs.lemmas.Result.{err_from_is_err_and}
use Rattle.ws_serve.specs.Served.{Serving}
use Rattle.ws_serve.proofs.Going.{serving_caught, serving_stops, turned_serving}
use Rattle.ws_serve.proofs.turning.settle.Goals as goal

pub returns-in_err-send-2-clause-served : goal.returns-in_err-send-2-clause-served
returns-in_err-send-2-clause-served g c =
    let p = err_from_is_err_and c.from_residual-in_err-send-2.result c.from_residual-in_err-send-2.ensures.1 in
    let serving : Serving [] c.args.conn.now c.args.socket.now c.args.reader.now = turned_serving c.args.turned c.args.conn.now c.args.socket.now c.args.reader.now (λ e. absurd (cc (rw e at (sym c.eq.ensures ∙ c.if-eq.false)))) c.requires.after in
    let caught = serving_caught c.args.conn.now c.catch_up.new.conn c.args.socket.now c.catch_up.new.socket c.args.reader.now c.catch_up.new.reader serving c.in_ok-catch_up.ensures.goes_on c.in_ok-catch_up.ensures.reads in
    rw p.1 (serving_stops [] c.send-2.new.self caught c.send-2.ensures.rests.given c.send-2.ensures.rests.said)
