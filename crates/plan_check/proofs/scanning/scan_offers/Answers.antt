use Rattle.std.proofs.Common.{◌&&◌, ap, ◌∙◌, arith}
use Rattle.sharing.specs.Offers.{id_cmp}
use Rattle.plan_check.specs.Lines.{is_behind}
use Rattle.plan_check.specs.PlanText.{offer_line, IsOffer}
use Rattle.plan_check.proofs.Runs.{passed_none, passed_more, run_of, note_within}
use Rattle.plan_check.proofs.KindLemmas.{no_line, other_line}
use Rattle.plan_check.proofs.scanning.scan_offers.Goals as goal

pub loop-line-init : goal.loop-line-init
loop-line-init c = record { passed = passed_none _; room = omega arith; within = tt }

pub loop-line-preserved : goal.loop-line-preserved
loop-line-preserved c =
    let inv = c.loop-line.invariant in
    let told = c.in-Some-scan_offer.ensures.found in
    let id = c.in-Some-scan_offer.id in
    record {
      passed = rw c.note-out.ensures (passed_more _ _ _ c.in-Some.line.now c.loop-line.count c.loop-line.out c.loop-line.before (id, told.0) c.is_fine.result inv.passed c.in-Some.ensures.lines told.2 told.1 (c.is_fine.ensures ∙ ap (λ b. is_behind id_cmp c.loop-line.before id && b) told.3));
      room = omega (arith, c.in-Some.ensures.shorter, inv.room);
      within = rw c.note-out.ensures (note_within c.loop-line.out c.is_fine.result c.loop-line.count inv.within);
    }

pub returns-in_default-scan_offer-clause-run : goal.returns-in_default-scan_offer-clause-run
returns-in_default-scan_offer-clause-run c = run_of _ _ _ _ _ c.loop-line.invariant.passed (other_line offer_line IsOffer c.in-Some.line.now _ _ c.in-Some.ensures.lines c.in_default-scan_offer.ensures.none)

pub returns-clause-run : goal.returns-clause-run
returns-clause-run c = run_of _ _ _ _ _ c.loop-line.invariant.passed (no_line offer_line IsOffer _ c.in_default.ensures.none)
