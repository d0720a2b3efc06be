use Rattle.std.proofs.Common.{◌+◌, ◌++◌, length, map, sym, ap, subst}
use Rattle.std.specs.Arc.{arc_value}
use Rattle.std.specs.Prelude.{Contains}
use Rattle.event_index.specs.Postings.{Covers, joined}
use Rattle.std.proofs.lemmas.List.{length-map}
use Rattle.event_index.proofs.Lists.{covers_more}
use Rattle.event_index.proofs.index.Index.grown.Goals as goal

pub returns : goal.returns
returns c = λ covered h.
    let ps = c.in_ok-postings.postings.items in
    covers_more covered (map arc_value c.args.events.now) _ (record { runs = map arc_value c.in_ok-with_run.field-0.items; count = c.self.inside.count + length c.args.events.now }) ps (subst (Covers covered) (sym c.self.view_is) h)
    c.in_ok-postings.ensures (ap (λ n. c.self.inside.count + n) (sym (length-map c.args.events.now arc_value)))
    (λ p there. c.in_ok-with_run.ensures p (subst (λ rs. Contains (joined (map arc_value rs) ++ ps) p) (sym c.as_slice-runs.ensures.value) there))
