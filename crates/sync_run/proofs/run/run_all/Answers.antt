use Rattle.std.proofs.lemmas.Result.{on_ok_weaker}
use Rattle.session_run.proofs.Written.{append_both}
use Rattle.sync_run.proofs.run.run_all.Goals as goal

pub returns : goal.returns
returns g c =
    let synced = c.in_ok-done.ensures in
    let fetched = c.in_ok-counts.ensures in
    on_ok_weaker c.say_counts.result
    (λ last. (
      synced.0,
      synced.1,
      record {
        ends = c.in_ok-done.done.ends.items;
        table = c.in_ok-done.done.table;
        plan = c.in_ok-done.done.plan;
        rounds = fetched.rounds;
        cells = fetched.cells;
        counts = c.in_ok-counts.counts;
        synced = synced.2;
        all = fetched.all;
        counted = fetched.counted;
        printed = append_both _ _ _ _ _ (append_both _ _ _ _ _ c.in_ok-say_synced.ensures fetched.printed) last;
      },
    ))
    c.say_counts.ensures
