use Rattle.std.proofs.Common.{◌≡◌, ◌&&◌, Bool, true, false, refl, ◌∙◌, arith}
use Rattle.plan_check.specs.PlanText.{give_line, IsGive}
use Rattle.plan_check.proofs.Runs.{passed_none, passed_more, run_of, note_within}
use Rattle.plan_check.proofs.KindLemmas.{no_line, other_line}
use Rattle.plan_check.proofs.scanning.scan_gives.Goals as goal

and_true : (b : Bool) → b ≡ (b && true)
and_true true = refl
and_true false = refl

pub loop-line-init : goal.loop-line-init
loop-line-init c = record { passed = passed_none _; room = omega arith; within = tt }

pub loop-line-preserved : goal.loop-line-preserved
loop-line-preserved c =
    let inv = c.loop-line.invariant in
    let told = c.in-Some-parse_give.ensures in
    record {
      passed = rw c.note-out.ensures (passed_more _ _ _ c.in-Some.line.now c.loop-line.count c.loop-line.out c.loop-line.before c.in-Some-parse_give.give c.comes_behind.result inv.passed c.in-Some.ensures.lines told.found told.give (c.comes_behind.ensures ∙ and_true _));
      room = omega (arith, c.in-Some.ensures.shorter, inv.room);
      within = rw c.note-out.ensures (note_within c.loop-line.out c.comes_behind.result c.loop-line.count inv.within);
    }

pub returns-in_default-parse_give-clause-run : goal.returns-in_default-parse_give-clause-run
returns-in_default-parse_give-clause-run c = run_of _ _ _ _ _ c.loop-line.invariant.passed (other_line give_line IsGive c.in-Some.line.now _ _ c.in-Some.ensures.lines c.in_default-parse_give.ensures.none)

pub returns-clause-run : goal.returns-clause-run
returns-clause-run c = run_of _ _ _ _ _ c.loop-line.invariant.passed (no_line give_line IsGive _ c.in_default.ensures.none)
