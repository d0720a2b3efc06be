use Rattle.std.proofs.Common.{◌<◌, ◌≤◌, [], ◌∷◌, length, map, take, refl, sym, ap, ◌∙◌, arith}
use Rattle.std.proofs.lemmas.List.{take_all}
use Rattle.item_key.specs.Keys.{place, least}
use Rattle.neg_codec.specs.Ranges.{Ascends, span_of}
use Rattle.neg_draft.proofs.Covering.{end-append}
use Rattle.neg_draft.proofs.Walking.{ranges_upto}
use Rattle.neg_initiator.specs.Findings.{findings_of}
use Rattle.neg_initiator.proofs.Stepping.{progress_none, read_whole}
use Rattle.neg_initiator.proofs.Taking.{stepped_at, progress_at, read_at}
use Rattle.neg_initiator.proofs.Trusts.{reaches_upper}
use Rattle.neg_initiator.proofs.settle.walk.Goals as goal

pub loop-range-init : goal.loop-range-init
loop-range-init c = record {
  progress = rw c.new-draft.ensures (progress_none c.args.limit c.args.roll.now (map span_of c.ranges-range-items.result.now) (findings_of c.args.found.now));
  lower = c.lowest-lower.ensures;
  most = refl;
}

pub settle_range-requires-clause-reached : goal.settle_range-requires-clause-reached
settle_range-requires-clause-reached c = c.loop-range.invariant.progress.reached ∙ ap place (sym c.loop-range.invariant.lower)

pub settle_range-requires-clause-ahead : goal.settle_range-requires-clause-ahead
settle_range-requires-clause-ahead c =
    let lt : c.loop-range.range-index < length c.ranges-range-items.result.now = omega arith in
    let up : Ascends least (map span_of c.ranges-range-items.result.now) = rw c.ranges-range-items.ensures.value c.ranges-range-items.ensures.ordered.ascends in
    omega (arith, ap place c.loop-range.invariant.lower, reaches_upper c.ranges-range-items.result.now c.loop-range.range-index c.range-item.result lt c.range-item.is up)

pub returns-in_err-draft-clause-most : goal.returns-in_err-draft-clause-most
returns-in_err-draft-clause-most c = c.settle_range.ensures.most ∙ c.loop-range.invariant.most

pub returns-then-is_over-clause-read : goal.returns-then-is_over-clause-read
returns-then-is_over-clause-read c =
    let lt : c.loop-range.range-index < length c.ranges-range-items.result.now = omega arith in
    let up : Ascends least (map span_of c.ranges-range-items.result.now) = rw c.ranges-range-items.ensures.value c.ranges-range-items.ensures.ordered.ascends in
    let step = stepped_at c.args.limit c.args.roll.now c.ranges-range-items.result.now c.loop-range.range-index c.range-item.result (findings_of c.args.found.now) (findings_of c.loop-range.found) (findings_of c.settle_range.new.found)
    c.loop-range.draft c.in_ok-draft.draft lt c.range-item.is up c.settle_range.ensures.draft c.loop-range.invariant.progress (rw c.loop-range.invariant.lower at c.in_ok-draft.ensures.finds) (rw c.loop-range.invariant.lower at c.in_ok-draft.ensures.settles) in
    rw (← c.ranges-range-items.ensures.value)
    (read_at c.args.limit c.args.roll.now c.ranges-range-items.result.now c.loop-range.range-index c.range-item.result (findings_of c.args.found.now) (findings_of c.settle_range.new.found) c.in_ok-draft.draft up
    (rw c.ranges-range-items.ensures.value c.ranges-range-items.ensures.ordered.fits) step
    (c.is_over.ensures.over.0 c.if-is_over.true))

pub returns-then-is_over-clause-most : goal.returns-then-is_over-clause-most
returns-then-is_over-clause-most c = c.settle_range.ensures.most ∙ c.loop-range.invariant.most

pub loop-range-preserved : goal.loop-range-preserved
loop-range-preserved c =
    let lt : c.loop-range.range-index < length c.ranges-range-items.result.now = omega arith in
    let up : Ascends least (map span_of c.ranges-range-items.result.now) = rw c.ranges-range-items.ensures.value c.ranges-range-items.ensures.ordered.ascends in
    let step = stepped_at c.args.limit c.args.roll.now c.ranges-range-items.result.now c.loop-range.range-index c.range-item.result (findings_of c.args.found.now) (findings_of c.loop-range.found) (findings_of c.settle_range.new.found)
    c.loop-range.draft c.in_ok-draft.draft lt c.range-item.is up c.settle_range.ensures.draft c.loop-range.invariant.progress (rw c.loop-range.invariant.lower at c.in_ok-draft.ensures.finds) (rw c.loop-range.invariant.lower at c.in_ok-draft.ensures.settles) in
    record {
      progress = progress_at c.args.limit c.args.roll.now c.ranges-range-items.result.now c.loop-range.range-index c.range-item.result (findings_of c.args.found.now) (findings_of c.settle_range.new.found) c.in_ok-draft.draft lt c.range-item.is step
          (λ over. let is = c.is_over.ensures.over.1 over in let not = c.if-is_over.false in cc);
      lower = rw (ranges_upto c.ranges-range-items.result.now c.loop-range.range-index c.range-item.result lt c.range-item.is)
          (sym (end-append least (map span_of (take c.loop-range.range-index c.ranges-range-items.result.now)) (span_of c.range-item.result ∷ [])));
      most = c.settle_range.ensures.most ∙ c.loop-range.invariant.most;
    }

pub returns-clause-read : goal.returns-clause-read
returns-clause-read c =
    let le : length c.ranges-range-items.result.now ≤ c.loop-range.range-index = omega arith in
    let up : Ascends least (map span_of c.ranges-range-items.result.now) = rw c.ranges-range-items.ensures.value c.ranges-range-items.ensures.ordered.ascends in
    rw (← c.ranges-range-items.ensures.value)
    (read_whole c.args.limit c.args.roll.now (map span_of c.ranges-range-items.result.now) (findings_of c.args.found.now) (findings_of c.loop-range.found) c.loop-range.draft up c.end.ensures.draft
    (rw (take_all c.loop-range.range-index c.ranges-range-items.result.now le) at c.loop-range.invariant.progress))

pub returns-clause-most : goal.returns-clause-most
returns-clause-most c = c.loop-range.invariant.most
