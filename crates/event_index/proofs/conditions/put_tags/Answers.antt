use Rattle.std.proofs.Common.{subst, sym}
use Rattle.std.specs.Prelude.{All}
use Rattle.std.proofs.lemmas.List.Elements.{All-push}
use Rattle.event_index.specs.declared.conditions.Marks.{Marks}
use Rattle.event_index.specs.Marks.{AreMarksOf}
use Rattle.event_index.proofs.Marked.{tags_marked}
use Rattle.event_index.proofs.conditions.put_tags.Goals as goal

pub loop-condition-preserved : goal.loop-condition-preserved
loop-condition-preserved c =
    let f = c.args.filter.now in
    subst (All (λ (m : Marks). AreMarksOf f m.marks.items)) (sym c.in_ok-push.ensures.items)
    (All-push (λ (m : Marks). AreMarksOf f m.marks.items) c.loop-condition.all.items _ c.loop-condition.invariant
    (tags_marked f c.as_slice-condition-items.result.now c.loop-condition.condition-index c.condition-item.result c.in_ok-marks.marks.items c.as_slice-condition-items.ensures.list c.loop-condition-test.true (sym c.condition-item.is) c.in_ok-marks.ensures))
