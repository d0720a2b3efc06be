use Rattle.std.proofs.Common.{◌≡◌, ◌⊎◌, ◌<◌, ◌-◌, List, inl, inr, map, ap, sym, subst, ◌∙◌, arith}
use Rattle.std.specs.Prelude.{All}
use Rattle.std.proofs.lemmas.Result.{IfOk-weaker}
use Rattle.neg_codec.specs.declared.Range.{Range}
use Rattle.item_key.specs.Keys.{place}
use Rattle.neg_codec.specs.Ranges.{Span, edge_of, span_of}
use Rattle.item_roll.specs.Parts.{count_below}
use Rattle.item_roll.specs.Truth.{IsTrueOf}
use Rattle.item_roll.specs.Closed.{closed_from}
use Rattle.item_roll.proofs.Truths.{split_printed}
use Rattle.neg_draft.specs.Coverage.{told_more, IsPrint, Cut, Told}
use Rattle.neg_draft.proofs.Covering.{edge_low}
use Rattle.neg_draft.proofs.Owning.{count_up, edge_key, tells_split}
use Rattle.neg_draft.proofs.Listing.{split_is_listed, all_prints, split_full}
use Rattle.neg_draft.proofs.draft.Draft.tell_split.Goals as goal

pub overflow_sub-hi : goal.overflow_sub-hi
overflow_sub-hi c =
    let up = count_up c.args.roll.now (edge_of c.end-lower.result) (edge_of c.args.upper) (omega (arith, ap place c.end-lower.ensures.end, c.requires)) in
    omega (arith, c.find_near-lo.ensures.value, c.find_near-hi.ensures.value, up)

pub returns-then-hi-lo-lt-LISTED_BELOW-clause-exact : goal.returns-then-hi-lo-lt-LISTED_BELOW-clause-exact
returns-then-hi-lo-lt-LISTED_BELOW-clause-exact c =
    let low : c.find_near-lo.result ≡ count_below c.args.roll.now c.args.self.end = c.find_near-lo.ensures.value ∙ ap (count_below c.args.roll.now) c.end-lower.ensures.end in
    let few : count_below c.args.roll.now (edge_of c.args.upper) - count_below c.args.roll.now c.args.self.end < 32 = omega (arith, low, c.find_near-hi.ensures.value, c.if-hi-lo-lt-LISTED_BELOW.true) in
    let same = split_is_listed c.args.roll.now c.args.self.end (edge_of c.args.upper) c.find_near-hi.result few c.find_near-hi.ensures.value (c.find_near-hi.ensures.part c.args.self.end (omega (arith, c.requires))) in
    IfOk-weaker c.tell_ids_at.result _ _ (λ d h. subst (λ (rs : List Span). (d ≡ told_more c.args.self (edge_of c.args.upper) rs) ⊎ Cut c.args.roll.now c.args.self (edge_of c.args.upper) d) (sym same) h) c.tell_ids_at.ensures.exact

pub tell_prints-requires-clause-finite : goal.tell_prints-requires-clause-finite
tell_prints-requires-clause-finite c = omega (arith, c.requires, edge_low (edge_of c.args.upper) c.edge-2.ensures.edge)

pub tell_prints-requires-clause-tells : goal.tell_prints-requires-clause-tells
tell_prints-requires-clause-tells c =
    let lt : place (edge_of c.end-lower.result) < place (edge_of c.args.upper) = omega (arith, ap place c.end-lower.ensures.end, c.requires) in
    let key = edge_key (edge_of c.end-lower.result) (edge_of c.args.upper) c.edge.ensures.edge c.edge-2.ensures.edge lt in
    let held = rw c.end-lower.ensures.end at (c.in_ok-split.ensures.holds (edge_of c.end-lower.result) key (sym c.find_near-lo.ensures.value) (omega (arith, lt))) in
    rw c.deref.ensures.value (tells_split c.args.self.end (edge_of c.args.upper) (map span_of c.in_ok-split.split.items) held.1 c.in_ok-split.ensures.last (split_full c.args.roll.now c.args.self.end (edge_of c.args.upper) c.find_near-lo.result c.find_near-hi.result (map span_of c.in_ok-split.split.items) c.len.ensures.roll c.find_near-hi.ensures.within c.if-hi-lo-lt-LISTED_BELOW.false
    c.in_ok-split.ensures.exact c.find_near-hi.ensures.value (c.find_near-lo.ensures.value ∙ ap (count_below c.args.roll.now) c.end-lower.ensures.end)))

pub tell_prints-requires-clause-holds : goal.tell_prints-requires-clause-holds
tell_prints-requires-clause-holds c =
    let lt : place (edge_of c.end-lower.result) < place (edge_of c.args.upper) = omega (arith, ap place c.end-lower.ensures.end, c.requires) in
    let key = edge_key (edge_of c.end-lower.result) (edge_of c.args.upper) c.edge.ensures.edge c.edge-2.ensures.edge lt in
    let held = rw c.end-lower.ensures.end at (c.in_ok-split.ensures.holds (edge_of c.end-lower.result) key (sym c.find_near-lo.ensures.value) (omega (arith, lt))) in
    subst (λ (rs : List Range). All (IsTrueOf c.args.roll.now) (closed_from c.args.self.end (map span_of rs))) (sym c.deref.ensures.value) held.0

pub tell_prints-requires-clause-prints : goal.tell_prints-requires-clause-prints
tell_prints-requires-clause-prints c =
    let same = c.in_ok-split.ensures.exact ∙ split_printed c.args.roll.now c.find_near-lo.result c.find_near-hi.result (edge_of c.args.upper) c.if-hi-lo-lt-LISTED_BELOW.false in
    subst (λ (rs : List Range). All IsPrint (map span_of rs)) (sym c.deref.ensures.value)
    (subst (λ (rs : List Span). All IsPrint rs) (sym same) (all_prints 15 c.args.roll.now c.find_near-lo.result c.find_near-hi.result (edge_of c.args.upper)))

pub returns-clause-told : goal.returns-clause-told
returns-clause-told c =
    let lt : place (edge_of c.end-lower.result) < place (edge_of c.args.upper) = omega (arith, ap place c.end-lower.ensures.end, c.requires) in
    let key = edge_key (edge_of c.end-lower.result) (edge_of c.args.upper) c.edge.ensures.edge c.edge-2.ensures.edge lt in
    let held = rw c.end-lower.ensures.end at (c.in_ok-split.ensures.holds (edge_of c.end-lower.result) key (sym c.find_near-lo.ensures.value) (omega (arith, lt))) in
    IfOk-weaker c.tell_prints.result (λ d. (d ≡ told_more c.args.self (edge_of c.args.upper) (map span_of c.deref.result.now)) ⊎ Cut c.args.roll.now c.args.self (edge_of c.args.upper) d) (Told c.args.roll.now c.args.self (edge_of c.args.upper))
    (λ d h. elim h [
      | inl e ↦ inl (record {
        finite = omega (arith, c.requires, edge_low (edge_of c.args.upper) c.edge-2.ensures.edge);
        spans = map span_of c.in_ok-split.split.items;
        tells = tells_split c.args.self.end (edge_of c.args.upper) (map span_of c.in_ok-split.split.items) held.1 c.in_ok-split.ensures.last (split_full c.args.roll.now c.args.self.end (edge_of c.args.upper) c.find_near-lo.result c.find_near-hi.result (map span_of c.in_ok-split.split.items) c.len.ensures.roll c.find_near-hi.ensures.within c.if-hi-lo-lt-LISTED_BELOW.false
            c.in_ok-split.ensures.exact c.find_near-hi.ensures.value (c.find_near-lo.ensures.value ∙ ap (count_below c.args.roll.now) c.end-lower.ensures.end));
        holds = held.0;
        now = e ∙ ap (λ (rs : List Range). told_more c.args.self (edge_of c.args.upper) (map span_of rs)) c.deref.ensures.value;
      })
      | inr cut ↦ inr cut
    ]) c.tell_prints.ensures
