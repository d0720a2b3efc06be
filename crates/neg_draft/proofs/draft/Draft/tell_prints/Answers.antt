use Rattle.std.proofs.Common.{◌≤◌, inl, inr, refl, length, map, arith}
use Rattle.std.proofs.lemmas.List.{take_all}
use Rattle.neg_codec.specs.Ranges.{IsEdge, edge_of, span_of}
use Rattle.neg_draft.proofs.Going.{over_at, ahead_at, own_at, more_at, print_at, going_all}
use Rattle.neg_draft.proofs.draft.Draft.tell_prints.Goals as goal

pub loop-range-init : goal.loop-range-init
loop-range-init c = inl (inl (refl, refl))

pub returns-then-is_over : goal.returns-then-is_over
returns-then-is_over c =
    let edge : IsEdge c.loop-range.draft.end = rw c.end-in-loop-range.ensures.end at c.edge.ensures.edge in
    inr (over_at c.args.roll.now c.args.self (edge_of c.args.upper.now) c.args.prints.now c.loop-range.range-index c.range-item.result c.loop-range.draft c.loop-range-test.true c.range-item.is c.requires.tells
    c.loop-range.invariant edge (c.is_over.ensures.over.0 c.if-is_over.true))

pub add_print-requires-clause-ahead : goal.add_print-requires-clause-ahead
add_print-requires-clause-ahead c =
    ahead_at c.args.roll.now c.args.self (edge_of c.args.upper.now) c.args.prints.now c.loop-range.range-index c.range-item.result c.loop-range.draft c.loop-range-test.true c.range-item.is c.requires.tells
    c.loop-range.invariant (λ over. let is = c.is_over.ensures.over.1 over in let not = c.if-is_over.false in cc)

pub add_print-requires-clause-own : goal.add_print-requires-clause-own
add_print-requires-clause-own c =
    own_at c.args.roll.now c.args.self (edge_of c.args.upper.now) c.args.prints.now c.loop-range.range-index c.range-item.result c.loop-range.draft c.in-Print.print c.loop-range-test.true c.range-item.is c.requires.holds
    c.loop-range.invariant (λ over. let is = c.is_over.ensures.over.1 over in let not = c.if-is_over.false in cc) c.in-Print.is

pub unreachable-requires : goal.unreachable-requires
unreachable-requires c =
    let p = print_at c.args.prints.now c.loop-range.range-index c.range-item.result c.loop-range-test.true c.range-item.is c.requires.prints in
    c.in_default.not-Print p.0 p.1

pub loop-range-preserved : goal.loop-range-preserved
loop-range-preserved c =
    more_at c.args.roll.now c.args.self (edge_of c.args.upper.now) c.args.prints.now c.loop-range.range-index c.range-item.result c.loop-range.draft c.add_print.new.self c.in-Print.print c.loop-range-test.true c.range-item.is
    c.end.ensures.draft c.requires.finite c.requires.tells c.requires.holds c.loop-range.invariant (λ over. let is = c.is_over.ensures.over.1 over in let not = c.if-is_over.false in cc) c.in-Print.is c.in_ok-add_print-in-Print.ensures

pub returns : goal.returns
returns c =
    let le : length c.args.prints.now ≤ c.loop-range.range-index = omega arith in
    going_all c.args.roll.now c.args.self (edge_of c.args.upper.now) (map span_of c.args.prints.now) c.loop-range.draft c.requires.tells (rw (take_all c.loop-range.range-index c.args.prints.now le) at c.loop-range.invariant)
