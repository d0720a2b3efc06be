use Rattle.std.proofs.Common.{◌+◌, take, sym, ap, ◌∙◌, subst, arith}
use Rattle.std.specs.List.{zip}
use Rattle.std.proofs.lemmas.List.{length_push}
use Rattle.round_core.specs.History.{History}
use Rattle.round_core.specs.Legal.{Legal}
use Rattle.round_core.specs.Left.{Leaves}
use Rattle.round_core.proofs.Runs.{zip_more, left_more, take_whole}
use Rattle.round_core.proofs.Left.{leaves_legal}
use Rattle.round_core.proofs.round.Round.answers.Goals as goal

pub loop-event-preserved : goal.loop-event-preserved
loop-event-preserved c =
    let inv = c.loop-event.invariant in
    rw c.in_ok-push.ensures.items (record {
      left = λ lanes start. subst (λ (h : History). Leaves lanes h c.step.new.self)
          (sym (zip_more c.args.events.now c.loop-event.answers.items c.loop-event.event-index c.event-item.result c.in_ok-step.field-0 c.loop-event-test.true inv.long c.event-item.is))
          (left_more lanes (zip (take c.loop-event.event-index c.args.events.now) c.loop-event.answers.items) c.loop-event.self c.step.new.self (c.event-item.result, c.in_ok-step.field-0) (inv.left lanes start) c.in_ok-step.ensures.leaves);
      long = length_push c.loop-event.answers.items c.in_ok-step.field-0 ∙ ap (λ n. n + 1) inv.long;
    })

pub returns-clause-legal : goal.returns-clause-legal
returns-clause-legal c =
    λ lanes start. subst (λ es. Legal lanes (zip es c.loop-event.answers.items)) (take_whole c.loop-event.event-index c.args.events.now (omega (arith, c.loop-event-test.false)))
    (leaves_legal lanes (zip (take c.loop-event.event-index c.args.events.now) c.loop-event.answers.items) c.loop-event.self (c.loop-event.invariant.left lanes start))
