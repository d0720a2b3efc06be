use Rattle.std.proofs.Common.{subst, sym}
use Rattle.std.specs.Prelude.{All}
use Rattle.std.proofs.lemmas.List.Elements.{All-push}
use Rattle.event_index.specs.declared.conditions.Marks.{Marks}
use Rattle.event_index.specs.Marks.{AreMarksOf}
use Rattle.event_index.proofs.Marked.{kinds_marked}
use Rattle.event_index.proofs.conditions.put_kinds.Goals as goal

pub returns-in_ok-push : goal.returns-in_ok-push
returns-in_ok-push c =
    let f = c.args.filter.now in
    subst (All (λ (m : Marks). AreMarksOf f m.marks.items)) (sym c.in_ok-push.ensures.items)
    (All-push (λ (m : Marks). AreMarksOf f m.marks.items) c.args.all.now.items _ c.requires (kinds_marked f c.in-Some.kinds c.in_ok-marks.marks.items c.in-Some.is c.in_ok-marks.ensures))
