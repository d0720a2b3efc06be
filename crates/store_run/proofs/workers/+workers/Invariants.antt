use Rattle.std.proofs.Common.{◌+◌, ◌*◌, length}
use Rattle.store_run.proofs.workers.+workers.Given as goal

abbrev pub decreases-run_workers : goal.decreases-run_workers
decreases-run_workers g l = 2 * length l.items.now + 1

abbrev pub decreases-join_mut+arg2 : goal.decreases-join_mut+arg2
decreases-join_mut+arg2 g l = 2 * length l.front.now + 2

abbrev pub decreases-join_mut+arg3 : goal.decreases-join_mut+arg3
decreases-join_mut+arg3 g l = 2 * length l.back.now + 2
