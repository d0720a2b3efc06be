use Rattle.std.proofs.Common.{◌≡◌, ◌<◌, ◌≤◌, ◌++◌, List, [], ◌∷◌, length, map, take, drop, suc, sym, ap, subst, ◌∙◌, arith}
use Rattle.std.proofs.lemmas.List.{take_all, take-append-drop, map-append}
use Rattle.item_key.specs.Keys.{place, least}
use Rattle.neg_codec.specs.Ranges.{Span, Ascends, edge_of, span_of}
use Rattle.item_roll.specs.Closed.{closed_from}
use Rattle.neg_draft.proofs.Covering.{end-append}
use Rattle.neg_draft.proofs.Walking.{ranges_at, ranges_upto}
use Rattle.neg_codec.proofs.Stretches.{least_below}
use Rattle.neg_initiator.specs.Pairs.{pair_of}
use Rattle.neg_initiator.specs.Trusting.{between, TrustsSkipped}
use Rattle.neg_initiator.proofs.Meeting.{overlap_of}
use Rattle.neg_initiator.proofs.Trusts.{earlier_below, earlier_first, earlier_least, at_start, at_ascends, met_is, at_more, trusts_none, trusts_more, trusts_all, reaches_upper}
use Rattle.neg_initiator.proofs.trust.trust_skipped.Goals as goal

pub loop-range-init : goal.loop-range-init
loop-range-init c = record {
  at = rw (c.lowest-from.ensures, c.lowest-lower.ensures, c.ranges-rest.ensures.value) (at_start c.args.answered.now);
  until = omega (arith, ap place c.lowest-from.ensures, least_below (edge_of c.args.until.now));
  lower = c.lowest-lower.ensures;
  trusts = trusts_none (map span_of c.ranges-range-items.result.now) c.args.answered.now (edge_of c.args.until.now) (map pair_of c.args.trusted.now.items);
}

pub pass-passed-requires-clause-ascends : goal.pass-passed-requires-clause-ascends
pass-passed-requires-clause-ascends c =
    at_ascends c.args.answered.now (map span_of c.loop-range.rest.now) (edge_of c.loop-range.from) (edge_of c.loop-range.lower) c.ranges-rest.ensures.ordered.ascends c.loop-range.invariant.at

pub pass-passed-requires-clause-behind : goal.pass-passed-requires-clause-behind
pass-passed-requires-clause-behind c =
    let lt : c.loop-range.range-index < length c.ranges-range-items.result.now = omega arith in
    let up : Ascends least (map span_of c.ranges-range-items.result.now) = rw c.ranges-range-items.ensures.value c.ranges-range-items.ensures.ordered.ascends in
    let le = reaches_upper c.ranges-range-items.result.now c.loop-range.range-index c.range-item.result lt c.range-item.is up in
    let behind : place (edge_of c.loop-range.from) ≤ place (edge_of c.range-item.result.upper) = omega (arith, le, c.loop-range.invariant.at.behind, ap place c.loop-range.invariant.lower) in
    omega (arith, ap place c.earlier_of-upper.ensures, earlier_least (edge_of c.args.until.now) (edge_of c.range-item.result.upper) (edge_of c.loop-range.from) c.loop-range.invariant.until behind)

pub trust_one-requires : goal.trust_one-requires
trust_one-requires c = λ h.
    let s = c.pass-passed.ensures.met.0 h in
    let o = overlap_of s.0 (between (edge_of c.loop-range.lower) (edge_of c.earlier_of-upper.result)) s.3 in
    omega (arith, o.other, ap place c.earlier_of-upper.ensures, earlier_below (edge_of c.args.until.now) (edge_of c.range-item.result.upper))

pub loop-range-preserved : goal.loop-range-preserved
loop-range-preserved c =
    let items = c.ranges-range-items.result.now in
    let lt : c.loop-range.range-index < length c.ranges-range-items.result.now = omega arith in
    let front : List Span = map span_of (take c.loop-range.range-index c.ranges-range-items.result.now) in
    let back : List Span = map span_of (drop (suc c.loop-range.range-index) c.ranges-range-items.result.now) in
    let upto = ranges_upto c.ranges-range-items.result.now c.loop-range.range-index c.range-item.result lt c.range-item.is in
    let all = ranges_at c.ranges-range-items.result.now c.loop-range.range-index c.range-item.result lt c.range-item.is in
    let rest : List Span = map span_of c.loop-range.rest.now in
    let parts : map span_of c.loop-range.rest.now ≡ map span_of (take c.pass-passed.result.count c.loop-range.rest.now) ++ map span_of (drop c.pass-passed.result.count c.loop-range.rest.now) =
    ap (map span_of) (sym (take-append-drop c.pass-passed.result.count c.loop-range.rest.now)) ∙ map-append span_of (take c.pass-passed.result.count c.loop-range.rest.now) (drop c.pass-passed.result.count c.loop-range.rest.now) in
    let at = at_more c.args.answered.now (map span_of (take c.pass-passed.result.count c.loop-range.rest.now)) (map span_of (drop c.pass-passed.result.count c.loop-range.rest.now)) (map span_of c.loop-range.rest.now)
    (edge_of c.loop-range.from) (edge_of c.loop-range.lower) (edge_of c.pass-passed.result.end) (edge_of c.range-item.result.upper) c.loop-range.invariant.at parts c.pass-passed.ensures.end
    (omega (arith, c.pass-passed.ensures.behind, ap place c.earlier_of-upper.ensures, earlier_below (edge_of c.args.until.now) (edge_of c.range-item.result.upper))) in
    let met = met_is c.args.answered.now (map span_of c.loop-range.rest.now) (edge_of c.loop-range.from) (edge_of c.loop-range.lower) (edge_of c.earlier_of-upper.result) c.pass-passed.result.met
    c.ranges-rest.ensures.ordered.ascends c.loop-range.invariant.at c.pass-passed.ensures.met in
    let trusts = trusts_more front (span_of c.range-item.result) back c.args.answered.now (edge_of c.args.until.now) (edge_of c.earlier_of-upper.result) (map pair_of c.args.trusted.now.items) (map pair_of c.loop-range.trusted.items) (map pair_of c.trust_one.new.trusted.items) c.pass-passed.result.met c.earlier_of-upper.ensures
    (subst (λ (x : List Span). TrustsSkipped x c.args.answered.now (edge_of c.args.until.now) (closed_from least (map span_of (take c.loop-range.range-index c.ranges-range-items.result.now))) (map pair_of c.args.trusted.now.items) (map pair_of c.loop-range.trusted.items)) all c.loop-range.invariant.trusts)
    (rw c.loop-range.invariant.lower at met) (rw c.loop-range.invariant.lower at c.in_ok-trust_one.ensures) in
    record {
      at = rw c.split_at.ensures.back at;
      until = omega (arith, c.pass-passed.ensures.behind, ap place c.earlier_of-upper.ensures, earlier_first (edge_of c.args.until.now) (edge_of c.range-item.result.upper));
      lower = rw upto (sym (end-append least front (span_of c.range-item.result ∷ [])));
      trusts = rw (upto, all) trusts;
    }

pub returns : goal.returns
returns c =
    let le : length c.ranges-range-items.result.now ≤ c.loop-range.range-index = omega arith in
    let all = rw (take_all c.loop-range.range-index c.ranges-range-items.result.now le, c.ranges-range-items.ensures.value) at c.loop-range.invariant.trusts in
    trusts_all c.args.asked.now c.args.answered.now (edge_of c.args.until.now) (map pair_of c.args.trusted.now.items) (map pair_of c.loop-range.trusted.items) all
