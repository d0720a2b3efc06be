use Rattle.std.proofs.Common.{◌&&◌, nat_lt, get_or, ◌-◌, sym, ap, ◌∙◌, arith}
use Rattle.plan_check.proofs.Runs.{rises_more}
use Rattle.plan_check.proofs.order.do_rise.Goals as goal

pub loop-place-preserved : goal.loop-place-preserved
loop-place-preserved c =
    let relays = c.args.relays.now in
    let place = c.loop-place.place in
    ap (λ t. t && nat_lt (get_or relays (place - 1) 0) (get_or relays place 0)) c.loop-place.invariant ∙ sym (rises_more relays place (omega arith) (omega arith))
