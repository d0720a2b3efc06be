use Rattle.std.proofs.Common.{subst, sym}
use Rattle.std.proofs.lemmas.List.{take_all}
use Rattle.std.proofs.lemmas.List.Elements.{All-nil, All-more, All-same}
use Rattle.ws_link.specs.Spoken.{WasSpoken}
use Rattle.session_run.proofs.told.all_spoken.Goals as goal

pub loop-told-init : goal.loop-told-init
loop-told-init g c = All-nil (λ told. WasSpoken told.peer)

pub loop-told-preserved : goal.loop-told-preserved
loop-told-preserved g c =
    All-more (λ told. WasSpoken told.peer) c.args.peers.now c.loop-told.told-index c.told-item.result c.loop-told-test.true c.loop-told.invariant
    (subst (λ told. WasSpoken told.peer) c.told-item.is c.always_spoken.ensures)

pub returns : goal.returns
returns g c = All-same (λ told. WasSpoken told.peer) _ _ (sym (take_all c.loop-told.told-index c.args.peers.now c.loop-told-test.false)) c.loop-told.invariant
