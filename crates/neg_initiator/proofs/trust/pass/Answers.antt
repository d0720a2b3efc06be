use Rattle.std.proofs.Common.{◌≡◌, ℕ, ◌<◌, ◌≤◌, ◌++◌, IsTrue, List, ◌∷◌, length, map, take, drop, suc, subst, arith, Bool, false, ◌↔◌, inl, inr}
use Rattle.std.proofs.lemmas.Bool.{cases_lt}
use Rattle.std.proofs.Math.Seq.{take-length}
use Rattle.std.proofs.lemmas.List.{take_all}
use Rattle.item_key.specs.Keys.{place}
use Rattle.neg_codec.specs.Ranges.{Span, Ascends, edge_of, span_of}
use Rattle.neg_draft.proofs.Walking.{ranges_at, ranges_upto}
use Rattle.neg_initiator.specs.Trusting.{between}
use Rattle.neg_initiator.proofs.Passing.{passing_none, passing_more, passing_stop, passing_end, ascends_behind}
use Rattle.neg_initiator.proofs.trust.pass.Goals as goal

not_below : (a b : ℕ) (t : Bool) → (IsTrue t ↔ a < b) → t ≡ false → b ≤ a
not_below a b t h e = elim (cases_lt a b) [ inl lt ↦ absurd (let is = h.1 lt in cc) | inr ge ↦ ge ]

pub loop-count-init : goal.loop-count-init
loop-count-init c = passing_none (edge_of c.args.from) (between (edge_of c.args.lower.now) (edge_of c.args.upper.now)) c.requires.behind

pub loop-count-preserved : goal.loop-count-preserved
loop-count-preserved c =
    let lt : c.loop-count.count < length c.args.rest.now = omega arith in
    let le : place (edge_of c.index-rest-count.result.upper) ≤ place (edge_of c.args.upper.now) = not_below (place (edge_of c.args.upper.now)) (place (edge_of c.index-rest-count.result.upper)) c.is_below.result c.is_below.ensures c.if-is_below.false in
    rw (ranges_upto c.args.rest.now c.loop-count.count c.index-rest-count.result lt c.index-rest-count.is)
    (passing_more (edge_of c.args.from) (map span_of (take c.loop-count.count c.args.rest.now)) (span_of c.index-rest-count.result) (between (edge_of c.args.lower.now) (edge_of c.args.upper.now))
    c.loop-count.met c.is_met-here.result (edge_of c.loop-count.end) c.loop-count.invariant c.is_met-here.ensures le)

pub returns-then-is_below-clause-met : goal.returns-then-is_below-clause-met
returns-then-is_below-clause-met c =
    let n = c.loop-count.count in
    let lt : c.loop-count.count < length c.args.rest.now = omega arith in
    let e = ranges_at c.args.rest.now c.loop-count.count c.index-rest-count.result lt c.index-rest-count.is in
    let up : Ascends (edge_of c.args.from) (map span_of (take c.loop-count.count c.args.rest.now) ++ (span_of c.index-rest-count.result ∷ map span_of (drop (suc c.loop-count.count) c.args.rest.now))) =
    subst (λ (x : List Span). Ascends (edge_of c.args.from) x) e c.requires.ascends in
    rw e (passing_stop (edge_of c.args.from) (map span_of (take c.loop-count.count c.args.rest.now)) (span_of c.index-rest-count.result) (map span_of (drop (suc c.loop-count.count) c.args.rest.now))
    (between (edge_of c.args.lower.now) (edge_of c.args.upper.now)) c.loop-count.met c.is_met-here.result (edge_of c.loop-count.end) c.loop-count.invariant c.is_met-here.ensures
    (c.is_below.ensures.0 c.if-is_below.true)
    (ascends_behind (edge_of c.args.from) (map span_of (take c.loop-count.count c.args.rest.now)) (span_of c.index-rest-count.result) (map span_of (drop (suc c.loop-count.count) c.args.rest.now)) up))

pub returns-then-is_below-clause-end : goal.returns-then-is_below-clause-end
returns-then-is_below-clause-end c = c.loop-count.invariant.at_end

pub returns-then-is_below-clause-behind : goal.returns-then-is_below-clause-behind
returns-then-is_below-clause-behind c = c.loop-count.invariant.behind

pub returns-clause-met : goal.returns-clause-met
returns-clause-met c =
    let le : length c.args.rest.now ≤ c.loop-count.count = omega arith in
    let was = rw (take_all c.loop-count.count c.args.rest.now le) at c.loop-count.invariant in
    passing_end (edge_of c.args.from) (map span_of c.args.rest.now) (between (edge_of c.args.lower.now) (edge_of c.args.upper.now)) c.loop-count.met c.do_meet-implied.result (edge_of c.loop-count.end) was c.do_meet-implied.ensures

pub returns-clause-end : goal.returns-clause-end
returns-clause-end c =
    let le : length c.args.rest.now ≤ c.loop-count.count = omega arith in
    let was = rw (take_all c.loop-count.count c.args.rest.now le) at c.loop-count.invariant in
    rw take-length was.at_end

pub returns-clause-behind : goal.returns-clause-behind
returns-clause-behind c = c.loop-count.invariant.behind
