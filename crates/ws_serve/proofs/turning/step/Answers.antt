use Rattle.std.proofs.Common.{[], refl}
use Rattle.ws_serve.proofs.Going.{serving_closes, serving_stops, refilled}
use Rattle.ws_serve.proofs.turning.step.Goals as goal

pub returns-then-counts-ge-MOST_READS-clause-served : goal.returns-then-counts-ge-MOST_READS-clause-served
returns-then-counts-ge-MOST_READS-clause-served g c =
    serving_closes c.args.conn.now c.args.socket.now c.put_close.new.self c.args.reader.now c.requires.serving c.in_ok-put_close.ensures.closes

pub returns-in-Nothing-clause-served : goal.returns-in-Nothing-clause-served
returns-in-Nothing-clause-served g c =
    refilled c.refill.result c.go_on.new.conn c.go_on.new.socket c.refill.new.socket c.go_on.new.reader c.in_ok-go_on.ensures.served c.refill.ensures.refills

pub returns-in-Closed-clause-served : goal.returns-in-Closed-clause-served
returns-in-Closed-clause-served g c = serving_stops [] c.go_on.new.socket c.in_ok-go_on.ensures.served refl refl
