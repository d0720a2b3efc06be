use Rattle.std.proofs.Common.{◌≡◌, List, ℕ, [], ◌∷◌, ◌++◌, ◌%◌, ◌<◌, ◌≤◌, get_or, ap, ◌∙◌, subst, arith}
use Rattle.std.proofs.lemmas.List.{get_or_default}
use Rattle.event_index.proofs.Lists.{reading_put, reading_left, reading_whole}
use Rattle.event_index.proofs.run.Run.put_places.Goals.{then-place-limit+in_ok-push, else-place-limit}
use Rattle.event_index.proofs.run.Run.put_places.Goals as goal

pub loop-at-preserved : goal.loop-at-preserved
loop-at-preserved c =
    let run = c.args.self.now in
    let at = c.loop-at.at in
    let here : c.index.result.now ≡ get_or run at c.index.result.now = c.index.ensures ∙ ap (λ (xs : List ℕ). get_or xs at c.index.result.now) c.self.view_is in
    let same : c.index.result.now ≡ get_or run at 0 = here ∙ get_or_default run at c.index.result.now 0 (omega (arith, c.loop-at-test.true, c.stretch-first.ensures.within)) in
    elim c.if-place-limit.branch [
      | then-place-limit+in_ok-push w ↦ reading_put c.args.limit c.stretch-first.result.0 c.loop-at.at c.args.self.now c.args.places.now.items c.loop-at.places.items c.if-place-limit.places.items (subst (λ n. n % 1048576 < c.args.limit) same w.if-place-limit.true)
          (ap (λ v. v.items) w.places-is ∙ w.in_ok-push.ensures.items ∙ ap (λ n. c.loop-at.places.items ++ (n % 1048576) ∷ []) same) c.loop-at.invariant
      | else-place-limit w ↦ reading_left c.args.limit c.stretch-first.result.0 c.loop-at.at c.args.self.now c.args.places.now.items c.loop-at.places.items c.if-place-limit.places.items (subst (λ n. c.args.limit ≤ n % 1048576) same w.if-place-limit.false)
          (ap (λ v. v.items) w.places-is) c.loop-at.invariant
    ]

pub returns : goal.returns
returns c = reading_whole c.args.limit c.args.mark c.stretch-first.result.0 c.stretch-first.result.1 c.loop-at.at c.args.self.now c.args.places.now.items c.loop-at.places.items c.requires c.loop-at-test.false c.stretch-first.ensures.whole c.loop-at.invariant
