use denote.Exit.{no}
use denote.Param.{param}
use denote.Param.Send.{param_sync, arg_sync}
use Rattle.event_store.proofs.Crossing.{desk_send}
use Rattle.pass_run.proofs.live.Listening.TheSendSync as listening
use Rattle.pass_run.proofs.live.listen_beside.Goals as goal

pub run_beside-requires-sync-H : goal.run_beside-requires-sync-H
run_beside-requires-sync-H g c κs within =
    param_sync 1 _ (arg_sync _ no _ (listening.the_sync _ _ _ _ (desk_send (param 0 g.row.J) g.J.Naming (param 1 g.row.D) c.type_bounds.send-D) c.type_bounds.send-P c.type_bounds.sync-R))
