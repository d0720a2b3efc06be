use Rattle.std.proofs.Common.{Some, map}
use Rattle.std.specs.Arc.{arc_value}
use Rattle.ws_link.proofs.Fetching.{due_is_kept, else_none_is}
use Rattle.ws_link.proofs.source.read_event.Goals as goal

pub returns-in_ok-push-in-Event-clause-takes : goal.returns-in_ok-push-in-Event-clause-takes
returns-in_ok-push-in-Event-clause-takes g c = λ asked due.
    let before = map arc_value c.args.events.now.items in
    let ensures = rw c.deref.ensures at c.if-comes_due.ensures in
    let kept = due_is_kept asked c.args.events.now.items c.push.new.self.items c.in-Event.event c.in_ok-push-in-Event.ensures.items (ensures.due asked before due) in
    ((Some c.in-Event.event.value, rw c.in-Event.is at c.in_ok-event.ensures.tells, kept), rw kept (ensures.left asked before due))

pub returns-else-comes_due-clause-takes : goal.returns-else-comes_due-clause-takes
returns-else-comes_due-clause-takes g c = λ asked due.
    let before = map arc_value c.args.events.now.items in
    let ensures = rw c.deref.ensures at c.if-comes_due.ensures in
    let kept = else_none_is asked before c.in-Event.event.value (ensures.due asked before due) in
    ((Some c.in-Event.event.value, rw c.in-Event.is at c.in_ok-event.ensures.tells, kept), rw kept (ensures.left asked before due))
