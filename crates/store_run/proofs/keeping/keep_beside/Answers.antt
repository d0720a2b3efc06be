use denote.Exit.{no}
use denote.Param.{param}
use denote.Param.Send.{param_sync, arg_sync}
use Rattle.store_run.proofs.Crossing.{keeping_sync}
use Rattle.store_run.proofs.keeping.keep_beside.Goals as goal

pub tend_beside-requires-sync-K : goal.tend_beside-requires-sync-K
tend_beside-requires-sync-K g c κs within = param_sync 1 _ (arg_sync _ no _ (keeping_sync (param 1 g.row.J) g.J.Naming (param 2 g.row.E) c.type_bounds.send-E))
