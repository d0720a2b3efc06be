use Rattle.std.proofs.Common.{◌≡◌, [], ◌∷◌, ◌++◌, rules}
use Rattle.std.specs.Vec.Iter.{into_iter_items}
use Rattle.ws_serve.proofs.Beginning.{fails, says_begun}
use Rattle.ws_serve.proofs.Framing.{says_more}
use Rattle.ws_serve.proofs.Saying.{next_none, next_in}
use Rattle.ws_serve.proofs.sending.say_all.Goals as goal

pub loop-message-preserved : goal.loop-message-preserved
loop-message-preserved g c = record {
  none = search (rules, next_none);
  said = says_more c.loop-message.yielded c.in-Some.message c.args.socket.now c.loop-message.socket c.say.new.socket c.loop-message.invariant.said c.in_ok-room.ensures.says;
  split = next_in c.in-Some.message c.loop-message.yielded (into_iter_items c.loop-message.message-iterator) (into_iter_items c.next.new.self) c.args.messages.items c.in-Some.ensures.steps.0 c.loop-message.invariant.split;
}

pub returns-in_err-room-clause-failed : goal.returns-in_err-room-clause-failed
returns-in_err-room-clause-failed g c =
    let split = next_in c.in-Some.message c.loop-message.yielded (into_iter_items c.loop-message.message-iterator) (into_iter_items c.next.new.self) c.args.messages.items c.in-Some.ensures.steps.0 c.loop-message.invariant.split in
    fails c.from_residual.result
    (says_begun c.loop-message.yielded (into_iter_items c.next.new.self) c.args.messages.items c.in-Some.message c.args.socket.now c.loop-message.socket c.say.new.socket split c.loop-message.invariant.said c.in_err-room.ensures.failed)
