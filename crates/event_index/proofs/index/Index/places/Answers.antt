use Rattle.std.proofs.Common.{List, ℕ, map, take, get_or, sym, ap, subst, ◌∙◌}
use Rattle.std.specs.Arc.{arc_value}
use Rattle.std.proofs.lemmas.List.{take_all}
use Rattle.event_index.specs.Postings.{joined, ReadsPlaces}
use Rattle.event_index.proofs.Lists.{ReadsAll, took_more, all_more, hold_matching}
use Rattle.event_index.proofs.index.Index.places.Goals as goal

pub loop-mark-preserved : goal.loop-mark-preserved
loop-mark-preserved c =
    let marks = c.args.marks.now in
    let i = c.loop-mark.mark-index in
    let mark = get_or marks i 0 in
    let old = c.loop-mark.places.items in
    let new = c.put_places.new.places.items in
    let runs = ap (map arc_value) c.as_slice.ensures.value ∙ ap (λ x. x.runs) c.self.view_is in
    let reads : ReadsPlaces c.args.self.now.count mark (joined c.args.self.now.runs) old new =
    subst (λ (rs : List (List ℕ)). ReadsPlaces c.args.self.now.count mark (joined rs) old new) runs
    (subst (λ (n : ℕ). ReadsPlaces n mark (joined (map arc_value c.as_slice.result.now)) old new) (ap (λ x. x.count) c.self.view_is) c.in_ok-put_places.ensures) in
    subst (λ (ms : List ℕ). ReadsAll c.args.self.now.count ms (joined c.args.self.now.runs) new) (sym (took_more marks i 0 c.loop-mark-test.true))
    (all_more c.args.self.now.count mark (take i marks) (joined c.args.self.now.runs) old new c.loop-mark.invariant reads)

pub returns : goal.returns
returns c f events of covers =
    hold_matching f events c.args.self.now c.args.marks.now c.loop-mark.places.items of covers
    (subst (λ (ms : List ℕ). ReadsAll c.args.self.now.count ms (joined c.args.self.now.runs) c.loop-mark.places.items) (take_all c.loop-mark.mark-index c.args.marks.now c.loop-mark-test.false) c.loop-mark.invariant)
