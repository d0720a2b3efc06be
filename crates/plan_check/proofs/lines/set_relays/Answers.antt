use Rattle.std.proofs.Common.{◌<◌, ◌++◌, take, ap, ◌∙◌, arith}
use Rattle.sharing.specs.declared.TheConstants.{RELAYS}
use Rattle.plan_check.specs.PlanText.{number_text}
use Rattle.plan_check.proofs.Digits.{relays_more, relay_room}
use Rattle.plan_check.proofs.lines.set_relays.Goals as goal

pub set_number-end-requires : goal.set_number-end-requires
set_number-end-requires c =
    let small : c.from.result < RELAYS = omega (arith, c.from.ensures, c.requires.relays c.loop-relay.relay-index 0 c.loop-relay-test.true) in
    record { room = omega (arith, relay_room c.from.result small) }

pub loop-relay-preserved : goal.loop-relay-preserved
loop-relay-preserved c =
    let small : c.from.result < RELAYS = omega (arith, c.from.ensures, c.requires.relays c.loop-relay.relay-index 0 c.loop-relay-test.true) in
    record {
      text = relays_more c.args.relays.now c.loop-relay.relay-index _ _ _ (omega arith) c.loop-relay.invariant.text (c.set_number-end.ensures.text ∙ ap (λ n. take c.loop-relay.end c.loop-relay.line ++ number_text n) c.from.ensures);
      end = omega (arith, relay_room c.from.result small);
      room = omega arith;
    }
