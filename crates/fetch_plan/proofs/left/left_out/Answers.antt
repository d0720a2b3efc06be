use Rattle.std.proofs.Common.{◌≡◌, ◌∙◌, sym, ap, subst, map, arith, length, get_or}
use Rattle.sharing.specs.Offers.{Ascend}
use Rattle.fetch_plan.specs.declared.cell.Cell.TheVariants.{Free}
use Rattle.fetch_plan.specs.LeftOut.{no_give, first_of, gone_beside}
use Rattle.fetch_plan.proofs.Gone.{gone_ids}
use Rattle.fetch_plan.proofs.left.left_out.Goals as goal

pub returns-clause-ascend : goal.returns-clause-ascend
returns-clause-ascend c =
    let n : c.loop-at.at ≡ length c.args.plan.now.gives = omega (arith, c.loop-at-test.false, c.loop-at.auto.at-end, c.len-at-end.ensures.value) in
    subst Ascend (sym (ap (map (λ o. o.0)) (c.loop-at.invariant
    ∙ ap (first_of (λ k. ((get_or c.args.plan.now.gives k no_give).0, gone_beside c.args.table.now.offers (get_or c.args.cells.now k Free) (get_or c.args.plan.now.gives k no_give)))) n)
    ∙ gone_ids c.args.table.now.offers c.args.plan.now.gives c.args.cells.now)) c.len-at-end.ensures.plan.ascend
