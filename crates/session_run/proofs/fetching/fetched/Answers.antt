use Rattle.std.proofs.lemmas.Result.{IfOk-weaker}
use Rattle.session_run.proofs.Streams.{over_by_free}
use Rattle.session_run.proofs.fetching.fetched.Goals as goal

pub returns-then-len-eq0-clause-cells : goal.returns-then-len-eq0-clause-cells
returns-then-len-eq0-clause-cells g c = c.unasked.ensures.cells

pub returns-then-len-eq0-clause-over : goal.returns-then-len-eq0-clause-over
returns-then-len-eq0-clause-over g c =
    IfOk-weaker c.unasked.result _ _ (λ round free. over_by_free g.S.Source.log c.args.plan.now.gives c.args.relays.now c.args.sources.now round.cells.items free) c.unasked.ensures.free

pub returns-in-Err-Lanes-clause-cells : goal.returns-in-Err-Lanes-clause-cells
returns-in-Err-Lanes-clause-cells g c = c.unasked-in-Err-Lanes.ensures.cells

pub returns-in-Err-Lanes-fetch_all-clause-cells : goal.returns-in-Err-Lanes-fetch_all-clause-cells
returns-in-Err-Lanes-fetch_all-clause-cells g c = c.unasked-in-Err-Lanes-fetch_all.ensures.cells

pub returns-in-Err-Lanes-clause-over : goal.returns-in-Err-Lanes-clause-over
returns-in-Err-Lanes-clause-over g c =
    IfOk-weaker c.unasked-in-Err-Lanes.result _ _ (λ round free. over_by_free g.S.Source.log c.args.plan.now.gives c.args.relays.now c.args.sources.now round.cells.items free) c.unasked-in-Err-Lanes.ensures.free

pub returns-in-Ok-fetch_all-clause-over : goal.returns-in-Ok-fetch_all-clause-over
returns-in-Ok-fetch_all-clause-over g c stream logs fetched =
    let report = c.in-Ok-fetch_all.report in
    let ends = rw (c.in-Ok.ensures.board.0, c.in-Ok.ensures.board.1) at c.in-Ok-fetch_all.ensures.cells in
    c.cells_over_streams.ensures stream logs c.args.plan.now.gives c.args.relays.now c.args.sources.now c.fetch_all.new.sources report.stops.items report.cells.items ends fetched

pub returns-in-Err-Lanes-fetch_all-clause-over : goal.returns-in-Err-Lanes-fetch_all-clause-over
returns-in-Err-Lanes-fetch_all-clause-over g c =
    IfOk-weaker c.unasked-in-Err-Lanes-fetch_all.result _ _ (λ round free. over_by_free g.S.Source.log c.args.plan.now.gives c.args.relays.now c.fetch_all.new.sources round.cells.items free) c.unasked-in-Err-Lanes-fetch_all.ensures.free
