use Rattle.std.proofs.lemmas.Result.{IfOk-weaker, IfErr-weaker}
use Rattle.mirror_run.specs.Reconciled.{Reconciles, IsSessionRefusal, TellsRolls}
use Rattle.mirror_run.proofs.SessionLemmas.{lists_refused}
use Rattle.mirror_run.proofs.recon.reconcile.Goals as goal

pub returns-clause-err : goal.returns-clause-err
returns-clause-err c =
    let told : TellsRolls c.args.text.now c.in_ok-mine.mine c.in_ok-mine.theirs = record { short = c.requires.short; first = c.in_ok-mine.ensures.ok.0; second = c.in_ok-mine.ensures.ok.1; told = c.in_ok-mine.ensures.ok.2; mine_is = c.in_ok-mine.ensures.ok.3; theirs_is = c.in_ok-mine.ensures.ok.4; mine_sorted = c.in_ok-mine.ensures.sorted.0; theirs_sorted = c.in_ok-mine.ensures.sorted.1 } in
    IfErr-weaker c.session.result (IsSessionRefusal c.args.limit c.in_ok-mine.mine c.in_ok-mine.theirs) _ (λ e h. lists_refused c.args.limit c.args.text.now c.in_ok-mine.mine c.in_ok-mine.theirs e told h) c.session.ensures.err

pub returns-clause-ok : goal.returns-clause-ok
returns-clause-ok c =
    let told : TellsRolls c.args.text.now c.in_ok-mine.mine c.in_ok-mine.theirs = record { short = c.requires.short; first = c.in_ok-mine.ensures.ok.0; second = c.in_ok-mine.ensures.ok.1; told = c.in_ok-mine.ensures.ok.2; mine_is = c.in_ok-mine.ensures.ok.3; theirs_is = c.in_ok-mine.ensures.ok.4; mine_sorted = c.in_ok-mine.ensures.sorted.0; theirs_sorted = c.in_ok-mine.ensures.sorted.1 } in
    IfOk-weaker c.session.result (λ s. Reconciles c.args.limit c.in_ok-mine.mine c.in_ok-mine.theirs s.0.log s.1) _ (λ s h. (c.in_ok-mine.mine, c.in_ok-mine.theirs, told, h)) c.session.ensures.ok
