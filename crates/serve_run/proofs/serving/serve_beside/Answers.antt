use denote.Exit.{no}
use denote.Param.{param}
use denote.Param.Send.{param_send, param_sync, arg_send, arg_sync}
use Rattle.event_store.proofs.Crossing.{desk_send, reader_send}
use Rattle.store_run.proofs.Crossing.{keeping_sync}
use Rattle.serve_run.proofs.Crossing.{guest_send}
use Rattle.serve_run.proofs.working.Serving.TheSendSync as serving
use Rattle.serve_run.proofs.serving.serve_beside.Goals as goal

pub run_beside-requires-send-T : goal.run_beside-requires-send-T
run_beside-requires-send-T g c κs within = param_send 1 _ (arg_send _ no _ (reader_send (param 1 g.row.J) g.J.Naming))

pub run_beside-requires-sync-H : goal.run_beside-requires-sync-H
run_beside-requires-sync-H g c κs within =
    let guest = guest_send (param 1 g.row.J) g.J.Naming in
    let desk = desk_send (param 1 g.row.J) g.J.Naming (param 2 g.row.D) c.type_bounds.send-D in
    let keeping = keeping_sync (param 1 g.row.J) g.J.Naming (param 3 g.row.E) c.type_bounds.send-E in
    param_sync 2 _ (arg_sync _ no _ (serving.the_sync _ _ _ _ _ _ guest desk c.type_bounds.sync-R keeping))
