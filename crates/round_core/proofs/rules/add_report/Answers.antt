use Rattle.std.proofs.Common.{sym, subst, refl}
use Rattle.offer_table.specs.Table.{Table}
use Rattle.offer_table.specs.Faults.{merge_fault}
use Rattle.round_core.specs.Left.{Adds}
use Rattle.round_core.proofs.Reports.{taken_is, refused_is, has_report, merge_said, ok_never}
use Rattle.round_core.proofs.rules.add_report.Goals as goal

pub returns-in-Ok-merge : goal.returns-in-Ok-merge
returns-in-Ok-merge c = (
  taken_is c.args.table c.in-Ok.report c.args.relay c.args.need.now.keys _ (λ g e. ok_never _ _ _ refl e) c.in-Ok.ensures.fault c.in-Ok.ensures.reported c.in-Ok.ensures.offers c.in-Ok-merge.ensures.fault,
  has_report c.args.table c.in-Ok.report c.in-Ok-merge.both c.args.relay c.args.need.now.keys c.in-Ok.ensures.reported c.in-Ok.ensures.offers c.in-Ok-merge.ensures.reported c.in-Ok-merge.ensures.relays c.in-Ok-merge.ensures.offers c.in-Ok-merge.ensures.table,
)

pub returns-in-Err-merge : goal.returns-in-Err-merge
returns-in-Err-merge c =
    let m = merge_said (merge_fault c.args.table c.in-Ok.report) c.in-Err-merge.fault c.in-Err-merge.mine c.args.table c.in-Err-merge._report c.in-Ok.report c.in-Err-merge.ensures.fault in
    let made : Adds c.args.table c.args.relay c.args.need.now.keys c.args.table c.refused-in-Err-merge.result =
    subst (Adds c.args.table c.args.relay c.args.need.now.keys c.args.table) (sym c.refused-in-Err-merge.ensures) (refused_is c.args.table c.in-Ok.report c.args.relay c.args.need.now.keys c.in-Err-merge.fault c.in-Ok.ensures.fault c.in-Ok.ensures.reported c.in-Ok.ensures.offers m) in
    subst (λ (t : Table). Adds c.args.table c.args.relay c.args.need.now.keys t c.refused-in-Err-merge.result) (sym c.in-Err-merge.ensures.back.0) made
