use Rattle.std.proofs.Common.{◌+◌, drop, map, ap, sym, ◌∙◌, arith}
use Rattle.neg_codec.specs.Ranges.{span_of, edge_of}
use Rattle.neg_codec.specs.Misplaced.{misplaced_from}
use Rattle.neg_codec.proofs.Placing.{begins, below_before, after_infinity, in_place, next_span, not_below}
use Rattle.neg_codec.proofs.message.misplaced.Goals as goal

pub loop-i-init : goal.loop-i-init
loop-i-init c = rw c.lowest-before.ensures (begins (map span_of c.args.ranges.now))

pub returns-then-is_below : goal.returns-then-is_below
returns-then-is_below c =
    let spans = map span_of c.args.ranges.now in
    let r = c.index-ranges-i.result in
    let next = next_span c.args.ranges.now c.loop-i.i r c.loop-i-test.true c.index-ranges-i.is in
    sym (below_before c.loop-i.i (edge_of c.loop-i.before) (span_of r) (drop (c.loop-i.i + 1) spans) (c.is_below.ensures.0 c.if-is_below.true))
    ∙ ap (misplaced_from c.loop-i.i (edge_of c.loop-i.before)) (sym next) ∙ c.loop-i.invariant

pub returns-then-time : goal.returns-then-time
returns-then-time c =
    let spans = map span_of c.args.ranges.now in
    let r = c.index-ranges-i.result in
    let next = next_span c.args.ranges.now c.loop-i.i r c.loop-i-test.true c.index-ranges-i.is in
    let le = not_below c.is_below.ensures c.if-is_below.false in
    sym (after_infinity c.loop-i.i (edge_of c.loop-i.before) (span_of r) (drop (c.loop-i.i + 1) spans) le (omega (arith, c.time.ensures, c.if-time.true)))
    ∙ ap (misplaced_from c.loop-i.i (edge_of c.loop-i.before)) (sym next) ∙ c.loop-i.invariant

pub loop-i-preserved : goal.loop-i-preserved
loop-i-preserved c =
    let spans = map span_of c.args.ranges.now in
    let r = c.index-ranges-i.result in
    let next = next_span c.args.ranges.now c.loop-i.i r c.loop-i-test.true c.index-ranges-i.is in
    let le = not_below c.is_below.ensures c.if-is_below.false in
    sym (in_place c.loop-i.i (edge_of c.loop-i.before) (span_of r) (drop (c.loop-i.i + 1) spans) le (omega (arith, c.time.ensures, c.if-time.false)))
    ∙ ap (misplaced_from c.loop-i.i (edge_of c.loop-i.before)) (sym next) ∙ c.loop-i.invariant
