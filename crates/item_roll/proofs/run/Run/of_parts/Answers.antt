use Rattle.std.proofs.Common.{◌+◌, length, ap, ◌∙◌, arith}
use Rattle.item_roll.proofs.Kept.{starts_most}
use Rattle.item_roll.proofs.Pushes.{so_far_next}
use Rattle.item_roll.proofs.run.Run.of_parts.Goals as goal

pub push-requires-clause-few : goal.push-requires-clause-few
push-requires-clause-few g c =
    let next = so_far_next g.P.Part.items c.args.entries.now c.loop-entry.entry-index c.entry-item.result c.loop-entry.run _ c.loop-entry-test.true c.entry-item.is c.loop-entry.invariant (ap g.P.Part.items c.in_ok-try_clone.ensures) in
    omega (arith, ap length next, starts_most g.P.Part.items c.args.entries.now (c.loop-entry.entry-index + 1), c.requires.few)

pub loop-entry-preserved : goal.loop-entry-preserved
loop-entry-preserved g c =
    let next = so_far_next g.P.Part.items c.args.entries.now c.loop-entry.entry-index c.entry-item.result c.loop-entry.run _ c.loop-entry-test.true c.entry-item.is c.loop-entry.invariant (ap g.P.Part.items c.in_ok-try_clone.ensures) in
    c.in_ok-push.ensures.ok ∙ next
