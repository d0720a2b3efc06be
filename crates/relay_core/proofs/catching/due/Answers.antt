use Rattle.std.proofs.Common.{◌∙◌, ap, sym, map, arith}
use Rattle.std.specs.Arc.{arc_value}
use Rattle.nostr_wire.specs.Forms.{relay_form}
use Rattle.relay_core.proofs.Passing.{due_start, due_more}
use Rattle.relay_core.proofs.catching.due.Goals as goal

pub loop-place-init : goal.loop-place-init
loop-place-init c =
    ap (map relay_form) c.new-out.ensures.items
    ∙ sym (due_start c.lowest-low.result c.args.subs.now c.args.events.now (omega (arith, c.lowest-low.ensures.front, c.len.ensures)) c.lowest-low.ensures.marks)

pub loop-place-preserved : goal.loop-place-preserved
loop-place-preserved c =
    due_more c.loop-place.place c.args.subs.now c.args.events.now (arc_value c.get-event.result.now) (map relay_form c.loop-place.out.items) (map relay_form c.put_at.new.out.items) c.get-event.ensures c.loop-place.invariant c.in_ok-put_at.ensures
