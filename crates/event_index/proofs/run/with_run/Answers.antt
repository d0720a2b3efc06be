use Rattle.std.proofs.Common.{◌++◌, ◌∷◌, [], map, drop, sym, ap, ◌∙◌, take-append-drop}
use Rattle.std.specs.Arc.{arc_value}
use Rattle.std.proofs.lemmas.List.{map-append}
use Rattle.event_index.proofs.Lists.{merged_all}
use Rattle.event_index.proofs.run.with_run.Goals as goal

pub returns : goal.returns
returns c =
    let first = c.split_at.result.0.now in
    let last = c.split_at.result.1.now in
    merged_all (map arc_value c.args.runs.now) (map arc_value first) (map arc_value last) (map arc_value c.push.new.self.items) c.args.postings.items c.put_runs.new.postings.items c.of.result
    (ap (map arc_value) (sym (take-append-drop c.args.kept c.args.runs.now) ∙ ap (λ xs. xs ++ drop c.args.kept c.args.runs.now) (sym c.split_at.ensures.front) ∙ ap (λ xs. first ++ xs) (sym c.split_at.ensures.back)) ∙ map-append arc_value first last)
    (ap (map arc_value) c.in_ok-push.ensures.items ∙ map-append arc_value c.in_ok-all.all.items (c.in_ok-new.field-0 ∷ []) ∙ ap (λ xs. xs ++ arc_value c.in_ok-new.field-0 ∷ []) c.in_ok-all.ensures ∙ ap (λ x. map arc_value first ++ x ∷ []) c.in_ok-new.ensures.ok)
    c.in_ok-put_runs.ensures c.of.ensures
