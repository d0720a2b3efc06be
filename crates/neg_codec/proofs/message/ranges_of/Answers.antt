use Rattle.std.proofs.Common.{◌≡◌, ◌<◌, ℕ, List, [], length, arith, map, subst, sym, ◌∙◌}
use Rattle.std.proofs.lemmas.Result.{err_from_is_err_and}
use Rattle.std.proofs.lemmas.Bool.{eqb-true, eqb-false}
use Rattle.std.proofs.lemmas.List.{map_push, nil_from_length}
use Rattle.item_key.specs.Keys.{least}
use Rattle.neg_codec.specs.Ranges.{span_of, edge_of}
use Rattle.neg_codec.specs.Reading.{ranges_at}
use Rattle.neg_codec.proofs.Loop.{GoesOn, goes_on, ends, is_done}
use Rattle.neg_codec.proofs.message.ranges_of.Goals as goal

pub returns-in_err-range : goal.returns-in_err-range
returns-in_err-range c =
    let p = err_from_is_err_and c.from_residual-in_err-range.result c.from_residual-in_err-range.ensures.1 in
    let some : 0 < length c.loop-rest.rest.now = omega (arith, eqb-false (length c.loop-rest.rest.now) 0 (sym c.is_empty.ensures ∙ c.loop-rest-test.true)) in
    rw (p.1, p.2) (ends c.in_err-range.field-0.0 (map span_of c.loop-rest.ranges.items) c.args.total (edge_of c.loop-rest.lower) c.loop-rest.rest.now _ some c.in_err-range.ensures.reads c.loop-rest.invariant)

pub loop-rest-preserved : goal.loop-rest-preserved
loop-rest-preserved c =
    rw (c.in_ok-push.ensures.items, map_push span_of c.loop-rest.ranges.items c.in_ok-range.range)
    (goes_on (map span_of c.loop-rest.ranges.items) c.args.total (edge_of c.loop-rest.lower) c.loop-rest.rest.now _ (span_of c.in_ok-range.range) c.in_ok-range.after.now c.in_ok-range.ensures.shorter c.in_ok-range.ensures.reads c.loop-rest.invariant)

pub returns : goal.returns
returns c =
    let none : c.loop-rest.rest.now ≡ [] = nil_from_length c.loop-rest.rest.now (eqb-true (length c.loop-rest.rest.now) 0 (sym c.is_empty.ensures ∙ c.loop-rest-test.false)) in
    is_done (map span_of c.loop-rest.ranges.items) c.args.total (edge_of c.loop-rest.lower) _
    (subst (λ (rest : List ℕ). GoesOn (map span_of c.loop-rest.ranges.items) c.args.total (edge_of c.loop-rest.lower) rest (ranges_at (length c.args.bytes.now) c.args.total least c.args.bytes.now)) none c.loop-rest.invariant)
