use denote.Exit.{no}
use denote.Param.{param}
use denote.Param.Send.{param_sync, arg_sync}
use Rattle.event_store.proofs.Crossing.{desk_send}
use Rattle.store_run.proofs.Crossing.{keeping_sync}
use Rattle.serve_run.proofs.Crossing.{guest_send}
use Rattle.serve_run.proofs.tending.KeptIn.TheSendSync as kept_in
use Rattle.serve_run.proofs.tending.keep_in_hall.Goals as goal

pub tend_beside-requires-sync-K : goal.tend_beside-requires-sync-K
tend_beside-requires-sync-K g c κs within =
    let guest = guest_send (param 1 g.row.J) g.J.Naming in
    let desk = desk_send (param 1 g.row.J) g.J.Naming (param 2 g.row.D) c.type_bounds.send-D in
    let keeping = keeping_sync (param 1 g.row.J) g.J.Naming (param 3 g.row.E) c.type_bounds.send-E in
    param_sync 1 _ (arg_sync _ no _ (kept_in.the_sync _ _ _ _ guest desk keeping))
