use Rattle.std.proofs.Common.{◌∙◌, List, sym, ap, subst, length}
use Rattle.fetch_plan.specs.declared.cell.Cell.{Cell}
use Rattle.session_run.specs.Rounds.{CameOver}
use Rattle.session_run.proofs.Rounds.{is_next}
use Rattle.session_run.proofs.pass.ask_and_plan.Goals as goal

pub returns : goal.returns
returns g c =
    let plan = c.args.plan.now in
    let cells = c.as_slice-cells.result.now in (
      cells,
      c.counts_of-counts.ensures,
      is_next c.args.table.now.offers c.failover_plan.new.table.offers plan c.in_ok-later.later cells c.bases.result c.grown-bases.result _
          (ap length c.as_slice-cells.ensures.value ∙ c.in_ok-ended.ensures.cells)
          (subst (λ (l : List Cell). CameOver plan.gives l) (sym c.as_slice-cells.ensures.value) c.in_ok-ended.ensures.came)
          c.planned-given.ensures.plan c.bases.ensures c.grown-bases.ensures c.in_ok-later.ensures.left c.in_ok-later.ensures.planned,
    )
