use Rattle.std.proofs.Common.{ℕ, List, ◌∙◌, refl, ap, map, length, subst, IfOk}
use Rattle.std.proofs.lemmas.Result.{IfOk-weaker}
use Rattle.mirror_settings.specs.declared.settings.Settings.{Settings}
use Rattle.sharing.specs.Bases.{base_of}
use Rattle.session_run.specs.Rounds.{BeginAt}
use Rattle.session_run.specs.Synced.{IsSynced}
use Rattle.session_run.proofs.Headlines.{logged, ran_of_logs, headline_of_logs, length_of_ran, length_of_numbered, of_four}
use Rattle.session_run.proofs.Streams.{logs_of_streams, planned_over_streams}
use Rattle.session_run.proofs.pass.compare_over.Goals as goal

pub sync_plan-done-requires-after_bounds : goal.sync_plan-done-requires-after_bounds
sync_plan-done-requires-after_bounds g c κs within = rw c.as_mut_slice-asked.ensures.value c.in_ok-peers.ensures.faults

pub returns : goal.returns
returns g c seen items =
    let own = c.args.snapshot.now.roll in
    let olds = c.as_mut_slice-asked.result.now in
    let news = c.sync_plan-done.new.peers in
    let settings : Settings = record c.args.settings.now { filter = c.args.filter.now } in
    let over : IfOk c.sync_plan-done.result (λ done. (bases : List ℕ) × BeginAt c.args.settings.now.bases bases × IsSynced settings bases seen done.ends.items done.table done.plan) =
    of_four _ _ _ _ _ c.sync_plan-done.result c.sync_plan-done.ensures.ran c.sync_plan-done.ensures.table c.sync_plan-done.ensures.headline c.sync_plan-done.ensures.planned
    (λ done ran table headline planned. (
      c.bases_of-bases.result,
      subst (λ (loads : List ℕ). BeginAt loads c.bases_of-bases.result) c.as_slice-2.ensures c.bases_of-bases.ensures,
      record {
        own = own;
        olds = map (logged (λ p. p.peer.log) (λ p. p.peer.faults)) c.as_mut_slice-asked.result.now;
        news = map (logged (λ p. p.peer.log) (λ p. p.peer.faults)) c.sync_plan-done.new.peers;
        limits = c.default-limits.result;
        items = items;
        sorted = c.requires;
        each = length_of_ran (λ p. p.peer.log) (λ p. p.peer.faults) _ own c.default-limits.result c.as_mut_slice-asked.result.now c.sync_plan-done.new.peers done.ends.items ran
            ∙ ap length c.as_mut_slice-asked.ensures.value
            ∙ length_of_numbered (λ p. p.relay) c.in_ok-peers.peers.items _ c.in_ok-peers.ensures.numbers;
        most = c.default-limits.ensures;
        ran = ran_of_logs (λ p. p.peer.log) (λ p. p.peer.faults) _ own c.default-limits.result c.as_mut_slice-asked.result.now c.sync_plan-done.new.peers done.ends.items ran;
        found = table;
        planned = planned;
        streams = map (λ p. p.peer) news;
        logs = logs_of_streams (λ p. p.peer) news;
        over = planned_over_streams (λ p. p.peer) (base_of c.bases_of-bases.result) own news done.ends.items done.table done.plan
            (c.plan_over_streams.ensures (λ p. p.peer) (λ p. refl) own c.default-limits.result c.bases_of-bases.result olds news done.ends.items done.table done.plan ran table planned headline c.all_spoken.ensures);
        headline = headline_of_logs (λ p. p.peer.log) (λ p. p.peer.faults) (base_of c.bases_of-bases.result) own c.as_mut_slice-asked.result.now c.sync_plan-done.new.peers done.ends.items done.table done.plan headline;
      },
    )) in
    IfOk-weaker c.end_sessions.result _ _ (λ d is. rw is over) c.end_sessions.ensures
