use Rattle.std.proofs.Common.{subst, sym, ap}
use Rattle.event_index.specs.Marks.{AreMarksOf}
use Rattle.event_index.specs.Postings.{HoldMatching}
use Rattle.event_index.proofs.index.Index.narrowed.Goals as goal
use Rattle.event_index.proofs.index.Index.narrowed.Goals.{then-other-at+then-is_worth+in_ok-found+else-len, else-other-at}

pub returns-then-len : goal.returns-then-len
returns-then-len c f events all covers holds =
    let of : AreMarksOf f c.as_slice-marks.result.now = subst (AreMarksOf f) (sym c.as_slice-marks.ensures.value) (all c.loop-other.other c.index-conditions-other.result c.loop-other-test.true) in
    c.in_ok-found.ensures f events of covers (subst (HoldMatching f events) (sym c.as_slice.ensures.value) (c.loop-other.invariant f events all covers holds))

pub loop-other-preserved : goal.loop-other-preserved
loop-other-preserved c f events all covers holds =
    let before = c.loop-other.invariant f events all covers holds in
    elim c.if-other-at.branch [
      | then-other-at+then-is_worth+in_ok-found+else-len w ↦
          let of : AreMarksOf f c.as_slice-marks.result.now = subst (AreMarksOf f) (sym c.as_slice-marks.ensures.value) (all c.loop-other.other c.index-conditions-other.result c.loop-other-test.true) in
          subst (HoldMatching f events) (sym (ap (λ v. v.items) w.places-is))
          (w.in_ok-found.ensures f events of covers (subst (HoldMatching f events) (sym w.as_slice.ensures.value) before))
      | else-other-at w ↦ subst (HoldMatching f events) (sym (ap (λ v. v.items) w.places-is)) before
    ]
