use Rattle.std.proofs.Common.{◌≡◌, ◌+◌, ◌<◌, ◌≤◌, ap, refl, sym, subst, ◌∙◌, arith, length}
use Rattle.std.proofs.lemmas.Result.{IfOk-weaker}
use Rattle.item_key.specs.Keys.{place, infinity}
use Rattle.neg_codec.specs.Ranges.{IsEdge, edge_of}
use Rattle.neg_print.specs.Print.{print_of}
use Rattle.item_roll.specs.Parts.{part, ids_of, count_below}
use Rattle.item_roll.proofs.Truths.{piece_is}
use Rattle.neg_draft.specs.Coverage.{Written, told_more, all_left, Cut}
use Rattle.neg_draft.proofs.Covering.{edge_low}
use Rattle.neg_draft.proofs.Telling.{before_most, may_be_cut}
use Rattle.neg_draft.proofs.Listing.{neighbours, bound_behind, ids_count, listed_cut}
use Rattle.neg_draft.proofs.draft.Draft.cut_ids.Goals as goal

pub close-requires : goal.close-requires
close-requires c = omega (arith, c.requires.ahead, edge_low (edge_of c.args.upper.now) c.edge-2.ensures.edge)

pub returns-then-count-eq0 : goal.returns-then-count-eq0
returns-then-count-eq0 c =
    may_be_cut c.args.roll.now c.args.self (edge_of c.args.upper.now) c.close.result (subst IsEdge c.end-end.ensures.end c.edge.ensures.edge)
    (omega (arith, c.requires.ahead, edge_low (edge_of c.args.upper.now) c.edge-2.ensures.edge)) (omega (arith, c.requires.ahead))
    (omega (arith, c.requires.full, before_most c.args.self, c.if-count-eq0.true)) c.close.ensures

-- the place of the bound
some : (c : goal.After-minimal_bound-arg-2-1) → 0 < c.find-lo.result + c.args.count
some c = omega (arith, c.if-count-eq0.false)

within : (c : goal.After-minimal_bound-arg-2-1) → c.find-lo.result + c.args.count < length c.args.roll.now
within c = omega (arith, c.requires.fewer, c.find.ensures.value, c.find.ensures.within, c.find-lo.ensures.value, ap (count_below c.args.roll.now) c.end-end.ensures.end)

pub minimal_bound-bound-requires-clause-order : goal.minimal_bound-bound-requires-clause-order
minimal_bound-bound-requires-clause-order c =
    (neighbours c.args.roll.now (c.find-lo.result + c.args.count) c.get.result c.get-2.result c.get.ensures.roll (some c) (within c) c.get.ensures.value c.get-2.ensures.value).0

pub minimal_bound-bound-requires-clause-first : goal.minimal_bound-bound-requires-clause-first
minimal_bound-bound-requires-clause-first c =
    (neighbours c.args.roll.now (c.find-lo.result + c.args.count) c.get.result c.get-2.result c.get.ensures.roll (some c) (within c) c.get.ensures.value c.get-2.ensures.value).1.time

pub minimal_bound-bound-requires-clause-second : goal.minimal_bound-bound-requires-clause-second
minimal_bound-bound-requires-clause-second c =
    (neighbours c.args.roll.now (c.find-lo.result + c.args.count) c.get.result c.get-2.result c.get.ensures.roll (some c) (within c) c.get.ensures.value c.get-2.ensures.value).2.time

pub list_ids-requires-clause-ahead : goal.list_ids-requires-clause-ahead
list_ids-requires-clause-ahead c =
    let b = bound_behind c.args.roll.now c.args.self.end (edge_of c.args.upper.now) c.get.result c.get-2.result (edge_of c.minimal_bound-bound.result) c.find-lo.result c.args.count c.get.ensures.roll
    (c.find-lo.ensures.value ∙ ap (count_below c.args.roll.now) c.end-end.ensures.end) c.if-count-eq0.false c.requires.fewer (omega (arith, c.find.ensures.value, c.find.ensures.within)) c.get.ensures.value c.get-2.ensures.value c.minimal_bound-bound.ensures.value in
    b.1

pub list_ids-requires-clause-upper : goal.list_ids-requires-clause-upper
list_ids-requires-clause-upper c =
    let b = bound_behind c.args.roll.now c.args.self.end (edge_of c.args.upper.now) c.get.result c.get-2.result (edge_of c.minimal_bound-bound.result) c.find-lo.result c.args.count c.get.ensures.roll
    (c.find-lo.ensures.value ∙ ap (count_below c.args.roll.now) c.end-end.ensures.end) c.if-count-eq0.false c.requires.fewer (omega (arith, c.find.ensures.value, c.find.ensures.within)) c.get.ensures.value c.get-2.ensures.value c.minimal_bound-bound.ensures.value in
    sym b.0.count

pub list_ids-requires-clause-fits : goal.list_ids-requires-clause-fits
list_ids-requires-clause-fits c =
    let b = bound_behind c.args.roll.now c.args.self.end (edge_of c.args.upper.now) c.get.result c.get-2.result (edge_of c.minimal_bound-bound.result) c.find-lo.result c.args.count c.get.ensures.roll
    (c.find-lo.ensures.value ∙ ap (count_below c.args.roll.now) c.end-end.ensures.end) c.if-count-eq0.false c.requires.fewer (omega (arith, c.find.ensures.value, c.find.ensures.within)) c.get.ensures.value c.get-2.ensures.value c.minimal_bound-bound.ensures.value in
    let low : c.find-lo.result ≡ count_below c.args.roll.now c.args.self.end = c.find-lo.ensures.value ∙ ap (count_below c.args.roll.now) c.end-end.ensures.end in
    omega (arith, b.0.count, low, c.requires.fits)

pub close-requires-2 : goal.close-requires-2
close-requires-2 c =
    let b = bound_behind c.args.roll.now c.args.self.end (edge_of c.args.upper.now) c.get.result c.get-2.result (edge_of c.minimal_bound-bound.result) c.find-lo.result c.args.count c.get.ensures.roll
    (c.find-lo.ensures.value ∙ ap (count_below c.args.roll.now) c.end-end.ensures.end) c.if-count-eq0.false c.requires.fewer (omega (arith, c.find.ensures.value, c.find.ensures.within)) c.get.ensures.value c.get-2.ensures.value c.minimal_bound-bound.ensures.value in
    omega (arith, ap (λ (w : Written). place w.end) c.in_ok-draft.ensures, b.2, edge_low (edge_of c.args.upper.now) c.edge-2.ensures.edge)

pub returns : goal.returns
returns c =
    let b = bound_behind c.args.roll.now c.args.self.end (edge_of c.args.upper.now) c.get.result c.get-2.result (edge_of c.minimal_bound-bound.result) c.find-lo.result c.args.count c.get.ensures.roll
    (c.find-lo.ensures.value ∙ ap (count_below c.args.roll.now) c.end-end.ensures.end) c.if-count-eq0.false c.requires.fewer (omega (arith, c.find.ensures.value, c.find.ensures.within)) c.get.ensures.value c.get-2.ensures.value c.minimal_bound-bound.ensures.value in
    let low : c.find-lo.result ≡ count_below c.args.roll.now c.args.self.end = c.find-lo.ensures.value ∙ ap (count_below c.args.roll.now) c.end-end.ensures.end in
    let most : count_below c.args.roll.now (edge_of c.args.upper.now) ≤ length c.args.roll.now = omega (arith, c.find.ensures.value, c.find.ensures.within) in
    let piece = piece_is c.args.roll.now (count_below c.args.roll.now c.args.self.end) (c.find-lo.result + c.args.count) c.args.self.end (edge_of c.minimal_bound-bound.result) c.get.ensures.roll.ascending refl b.0.count (omega (arith, b.1)) in
    let count = ids_count c.args.roll.now c.args.self.end (edge_of c.minimal_bound-bound.result) (count_below c.args.roll.now c.args.self.end) (c.find-lo.result + c.args.count) piece (omega (arith, low, c.requires.fewer, most)) (omega (arith, low)) in
    IfOk-weaker c.close-2.result (λ new. new ≡ told_more c.in_ok-draft.draft infinity (all_left (print_of (ids_of (part c.args.roll.now c.in_ok-draft.draft.end infinity))))) (Cut c.args.roll.now c.args.self (edge_of c.args.upper.now))
    (λ new now. listed_cut c.args.roll.now c.args.self c.in_ok-draft.draft new (edge_of c.minimal_bound-bound.result) (edge_of c.args.upper.now) c.args.count c.end-end.ensures.draft c.get.ensures.roll.keys
    (subst IsEdge c.end-end.ensures.end c.edge.ensures.edge) b.0.key b.1 (omega (arith, b.2)) (edge_low (edge_of c.args.upper.now) c.edge-2.ensures.edge) (count ∙ omega (arith, low)) c.requires.full c.in_ok-draft.ensures now)
    c.close-2.ensures
