use Rattle.std.proofs.Common.{◌≡◌, ◌+◌, ◌-◌, ◌∷◌, ℕ, List, suc, arith, ap, ◌∙◌}
use Rattle.neg_codec.specs.Ranges.{Span, print, edge_of, span_of}
use Rattle.item_roll.specs.Splits.{prints_at}
use Rattle.item_roll.proofs.Truths.{prints_step, prints_last, pushed, pushed_last}
use Rattle.item_roll.proofs.split.told_by_prints.Goals as goal

pub loop-done-preserved : goal.loop-done-preserved
loop-done-preserved c =
    let upper = edge_of c.args.upper.now in
    let e1 : 15 - (c.loop-done.done + 1) ≡ 14 - c.loop-done.done = omega arith in
    let e2 : 16 - c.loop-done.done ≡ 14 - c.loop-done.done + 2 = omega arith in
    let e3 : suc (14 - c.loop-done.done) ≡ 15 - c.loop-done.done = omega arith in
    let step = prints_step (14 - c.loop-done.done) c.args.roll.now c.loop-done.from c.args.hi c.piece_end-next.result (16 - c.loop-done.done) (edge_of c.args.upper.now) (span_of c.printed-range.result.0) c.piece_end-next.ensures.value e2 c.printed-range.ensures.range in
    let f = ap (λ (n : ℕ). span_of c.printed-range.result.0 ∷ prints_at n c.args.roll.now c.piece_end-next.result c.args.hi (edge_of c.args.upper.now)) e1 ∙ step
    ∙ ap (λ (n : ℕ). prints_at n c.args.roll.now c.loop-done.from c.args.hi (edge_of c.args.upper.now)) e3 in
    record {
      room = omega (arith, c.piece_end-next.ensures.left, c.loop-done.invariant.room);
      below = c.printed-range.ensures.below;
      so_far = pushed c.loop-done.ranges.items c.push.new.self.items c.printed-range.result.0 _ _ _ c.in_ok-push.ensures.items f c.loop-done.invariant.so_far;
    }

pub returns : goal.returns
returns c =
    let e : 0 ≡ 15 - c.loop-done.done = omega arith in
    let r = ap (λ (p : List ℕ). let s : Span = record { upper = edge_of c.args.upper.now; claim = print p } in s) c.print_from.ensures.print in
    let f = prints_last c.args.roll.now c.loop-done.from c.args.hi (edge_of c.args.upper.now) _ r ∙ ap (λ (n : ℕ). prints_at n c.args.roll.now c.loop-done.from c.args.hi (edge_of c.args.upper.now)) e in
    pushed_last c.loop-done.ranges.items c.push-2.new.self.items _ _ _ c.in_ok-push-2.ensures.items f c.loop-done.invariant.so_far
