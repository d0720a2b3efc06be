use Rattle.std.proofs.Common.{ap, Err}
use Rattle.mirror_run.proofs.SessionLemmas.{reconciled, refused}
use Rattle.mirror_run.proofs.recon.session.Goals as goal

pub returns-in-Ok-clause-ok : goal.returns-in-Ok-clause-ok
returns-in-Ok-clause-ok c =
    let peer = c.new-peer.ensures in
    reconciled c.args.limit c.args.mine.now c.args.theirs _ c.new-peer.result c.reconcile_with.new.peer c.in-Ok.outcome c.roll_explains.ensures c.most-limits.ensures
    (record { roll = peer.keeps; log = peer.log; faults = peer.faults; sorted = peer.roll; answers = peer.answers; limit_is = peer.limit; pairs = peer.pairs })
    c.reconcile_with.ensures.becomes c.in-Ok.ensures.ran

pub returns-in-Err-clause-err : goal.returns-in-Err-clause-err
returns-in-Err-clause-err c =
    let peer = c.new-peer.ensures in
    refused c.args.limit c.args.mine.now c.args.theirs _ c.new-peer.result c.reconcile_with.new.peer c.in-Err.fault c.refusal_of.result c.roll_explains.ensures c.most-limits.ensures c.requires.1
    (record { roll = peer.keeps; log = peer.log; faults = peer.faults; sorted = peer.roll; answers = peer.answers; limit_is = peer.limit; pairs = peer.pairs })
    c.reconcile_with.ensures.becomes c.in-Err.ensures.ran (λ e. c.in-Err.ensures.failed (ap Err e)) c.refusal_of.ensures.memory c.refusal_of.ensures.others
