use Rattle.std.proofs.Common.{◌≡◌, ℕ, ◌<◌, length, take, ap, subst, arith, ◌∙◌}
use Rattle.std.specs.Prelude.{All, IfSome}
use Rattle.event_index.specs.Postings.{HoldMatching}
use Rattle.event_table.proofs.Indexed.{marked_matching}
use Rattle.event_table.proofs.indexing.places_by_marks.Goals as goal

pub returns : goal.returns
returns c =
    let f = c.args.filter.now in
    let events = c.args.table.now in
    let index = c.index-index.result.now in
    let found = c.in-Some.found.items in
    let places = c.put_range.new.places.items in
    let len : c.len.result ≡ length events = c.len.ensures ∙ ap length c.events.ensures.list in
    let hold : HoldMatching f (take index.count events) found =
    subst (λ o. IfSome o (λ v. HoldMatching f (take index.count events) v.items)) c.in-Some.is (c.in_ok-found.ensures (take index.count events) c.index-index.ensures.covers) in
    marked_matching f events index found places c.put_in_order.new.places.items c.index-index.ensures hold
    (subst (λ (n : ℕ). All (λ p. p < n) found → All (λ p. p < n) places) len c.in_ok-put_range.ensures.below) c.in_ok-put_range.ensures.kept
    (λ i le lt. c.in_ok-put_range.ensures.put i (omega (arith, le, c.count.ensures)) (omega (arith, lt, len))) c.put_in_order.ensures
