use Rattle.std.proofs.Common.{◌≡◌, ◌∙◌, ◌++◌, ◌∷◌, [], map, sym, ap}
use Rattle.std.specs.Arc.{arc_value}
use Rattle.std.proofs.lemmas.List.{map-append, take-append-drop}
use Rattle.newest.proofs.Lists.{run_joined}
use Rattle.newest.proofs.order.with_run.Goals as goal

pub returns : goal.returns
returns c =
    let first = map arc_value c.split_at.result.0.now in
    let last = map arc_value c.split_at.result.1.now in
    let cut : map arc_value c.args.runs.now ≡ first ++ last =
    ap (map arc_value) (sym (take-append-drop c.args.kept c.args.runs.now) ∙ (λ i. sym c.split_at.ensures.front i ++ sym c.split_at.ensures.back i)) ∙ map-append arc_value c.split_at.result.0.now c.split_at.result.1.now in
    let put : map arc_value c.push.new.self.items ≡ first ++ c.in_ok-run.run' ∷ [] =
    ap (map arc_value) c.in_ok-push.ensures.items ∙ map-append arc_value c.in_ok-all.all.items (c.in_ok-new.field-0 ∷ []) ∙ (λ i. c.in_ok-all.ensures i ++ c.in_ok-new.ensures.ok i ∷ []) in
    run_joined (map arc_value c.args.runs.now) first last (map arc_value c.push.new.self.items) c.args.run c.in_ok-run.run' cut put c.in_ok-run.ensures
