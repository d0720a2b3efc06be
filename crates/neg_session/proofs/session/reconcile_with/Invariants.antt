use Rattle.neg_session.specs.Going.{Going}
use Rattle.neg_session.proofs.session.reconcile_with.Given as goal

abbrev pub invariant-loop-round : goal.invariant-loop-round
invariant-loop-round g l = record {
  going : Going l.roll l.limits l.round (g.P.Peer.log l.initial.peer) (g.P.Peer.log l.peer) (g.P.Peer.faults l.initial.peer) (g.P.Peer.faults l.peer) l.question.items l.left l.initiator;
  becomes : g.P.Peer.becomes l.initial.peer l.peer;
}
