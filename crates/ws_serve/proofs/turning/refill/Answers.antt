use Rattle.std.proofs.lemmas.Result.{err_from_is_err_and}
use Rattle.ws_serve.proofs.Going.{gives_rests, gives_behind}
use Rattle.ws_serve.proofs.turning.refill.Goals as goal

pub returns-in_err-send-clause-refills : goal.returns-in_err-send-clause-refills
returns-in_err-send-clause-refills g c =
    let p = err_from_is_err_and c.from_residual.result c.from_residual.ensures.1 in
    rw p.1 (gives_rests c.args.socket.now c.send.new.self c.send.ensures.rests)

pub returns-then-is_full-clause-refills : goal.returns-then-is_full-clause-refills
returns-then-is_full-clause-refills g c = gives_rests c.args.socket.now c.send.new.self c.send.ensures.rests

pub returns-in_err-fill-clause-refills : goal.returns-in_err-fill-clause-refills
returns-in_err-fill-clause-refills g c =
    let p = err_from_is_err_and c.from_residual-in_err-fill.result c.from_residual-in_err-fill.ensures.1 in
    rw p.1 (gives_behind c.args.socket.now c.send.new.self c.fill.new.self c.send.ensures.rests c.fill.ensures.gives)

pub returns-then-branch-clause-refills : goal.returns-then-branch-clause-refills
returns-then-branch-clause-refills g c = gives_behind c.args.socket.now c.send.new.self c.fill.new.self c.send.ensures.rests c.fill.ensures.gives

pub returns-clause-refills : goal.returns-clause-refills
returns-clause-refills g c = gives_behind c.args.socket.now c.send.new.self c.fill.new.self c.send.ensures.rests c.fill.ensures.gives
