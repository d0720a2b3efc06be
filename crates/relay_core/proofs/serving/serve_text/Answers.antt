use Rattle.std.proofs.Common.{◌≤◌, arith, length}
use Rattle.std.proofs.lemmas.Result.{IfOk-weaker}
use Rattle.relay_core.proofs.Heard.{heard_served}
use Rattle.relay_core.proofs.Served.{fault_served}
use Rattle.relay_core.specs.Turns.{turn_of}
use Rattle.relay_core.proofs.serving.serve_text.Goals as goal

pub returns-in_ok-refuse-in-Err-clause-turn : goal.returns-in_ok-refuse-in-Err-clause-turn
returns-in_ok-refuse-in-Err-clause-turn g c =
    let t = c.args.talk.now in
    let short : length c.args.text.now ≤ c.args.limits.now.text = omega (arith, c.if-text-limits.false) in
    let served = c.in_ok-refuse-in-Err.ensures in
    fault_served c.args.limits.now c.args.reader.now c.args.text.now t (turn_of c.in_ok-refuse-in-Err.field-0 t) c.in-Err.fault short served.memory c.in-Err.ensures.fault (served.told t)

pub returns-in-Ok-clause-turn : goal.returns-in-Ok-clause-turn
returns-in-Ok-clause-turn g c =
    let short : length c.args.text.now ≤ c.args.limits.now.text = omega (arith, c.if-text-limits.false) in
    IfOk-weaker c.bring.result _ _ (λ s brings. heard_served c.args.limits.now _ _ c.in-Ok.message _ c.args.text.now short c.in-Ok.ensures.message brings) c.bring.ensures.turn
