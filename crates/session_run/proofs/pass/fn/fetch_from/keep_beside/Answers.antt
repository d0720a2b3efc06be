use Rattle.std.proofs.Common.{refl}
use Rattle.std.proofs.lemmas.Result.{IfOk-weaker}
use Rattle.session_run.proofs.Streams.{came_over_streams}
use Rattle.session_run.proofs.pass.fn.fetch_from.keep_beside.Goals as goal

pub returns : goal.returns
returns g c = record {
  cells = c.fetched-round.ensures.cells;
  came = IfOk-weaker c.fetched-round.result _ _
      (λ round over. came_over_streams (λ s. s.source) c.captures.plan.now.gives c.captures.relays.now c.fetched-round.new.sources round.cells.items (over (λ s. s.source) (λ s. refl) c.all_fetched.ensures))
      c.fetched-round.ensures.over;
}
